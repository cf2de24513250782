-- A failed link that the color of the table goes round.
use Rattle.std.specs.Prelude.{⊤}
use Rattle.std.proofs.Common.{◌≡◌, ◌≢◌, ◌∙◌, ◌<◌, ℕ, Some, length, refl, sym, ap, subst, inl, inr, arith}
use Rattle.std.proofs.lemmas.Bool.{iff_false}
use Rattle.mrt_graph.specs.declared.cert.Color.{Color}
use Rattle.mrt_graph.specs.declared.cert.Color.TheVariants.{Blue, Red}
use Rattle.mrt_graph.specs.declared.cert.Role.TheVariants.{Closing, Plain}
use Rattle.mrt_graph.specs.declared.cert.Tag.{Tag}
use Rattle.mrt_graph.specs.declared.link.Element.TheVariants as elements
use Rattle.mrt_graph.specs.Leads.{leads}
use Rattle.mrt_graph.specs.Rows.{Rows}
use Rattle.block_spf.specs.declared.reach.Dir.TheVariants.{Down, Up}
use Rattle.mrt_rows.specs.RowsOf.{HasRow}
use Rattle.mrt_rows.proofs.OrderedGraphs.{OrderedGraph}
use Rattle.mrt_rows.proofs.Ways.{Directs, Home, Inner, Inside, Out, Ring, directs}
use Rattle.order_repair.specs.declared.order_tests.OrderTests.{OrderTests}
use Rattle.order_repair.specs.ColorTable.{closing_color, plain_color}
use Rattle.order_repair.specs.OrderChoice.{AreLinkTests, IsClosing, IsPlain, LinkLine}
use Rattle.order_repair.proofs.MayMeet.{Back, CrossedAside, On, goes_after, goes_aside, goes_head, goes_peer}
use Rattle.order_repair.proofs.Round.{AsLink, IsRound, closingly, leads_to, walks_round, way_to}
use Rattle.order_repair.proofs.RoundFailed.{Tell, round, told}
use Rattle.order_repair.proofs.RowWays.{AboveRow, BelowRow, HeadRow, RowWays, TopRow, UnorderedRow, way_of}
use Rattle.order_repair.proofs.Steps.{beyond_on, from_itself}

module _ (og : OrderedGraph) (m : ℕ) (ring : Ring og m) (rows : Rows) (s t : ℕ)
    (tabled : (u : ℕ) → u < length og.g.ids → u ≢ t → HasRow og.g og.root og.w u (rows u) t) (e : ℕ) where
  -- the closing link
  module _ (closing : og.w.role e ≡ Closing) where
    closing_round : (blue red : ℕ) {tag : Tag} → RowWays og m s t blue red tag → IsRound og rows s t (elements.Link e) (closing_color tag)
    closing_round blue red (HeadRow a b up down) =
        walks_round og rows s t (elements.Link e) Red _ _ (goes_head og m ring rows t tabled Red b s) (a, from_itself og Down s)
        (λ u y may other next crossed. let never = closingly (Down ≡ Up) og m Down e u y closing crossed in cc)
    closing_round blue red (TopRow a b up down) =
        walks_round og rows s t (elements.Link e) Blue _ _ (goes_after og m ring rows t tabled Blue b ⊤) (inl (tt, a))
        (λ u y may other next crossed. let never = closingly (Up ≡ Down) og m Up e u y closing crossed in cc)
    closing_round blue red (BelowRow a b up down) =
        walks_round og rows s t (elements.Link e) Blue _ _ (goes_peer og m ring rows t tabled Blue b s) (a, way_of og m Up s t blue up, from_itself og Up s)
        (λ u y may other next crossed. closingly ⊥ og m Up e u y closing crossed)
    closing_round blue red (AboveRow a b up down) =
        walks_round og rows s t (elements.Link e) Red _ _ (goes_peer og m ring rows t tabled Red b s) (a, way_of og m Down s t red down, from_itself og Down s)
        (λ u y may other next crossed. closingly ⊥ og m Down e u y closing crossed)
    closing_round blue red (UnorderedRow a b none_up none_down down up) =
        walks_round og rows s t (elements.Link e) Blue _ _ (goes_aside og m ring rows t tabled Blue b s)
        (inl (record { inside = a; from = inl refl; none_on = none_up; none_back = none_down }))
        (λ u y may other next crossed. go u y crossed)
      where
        go : (u y : ℕ) → CrossedAside og m ring rows t tabled Blue b s e u y → ⊥
        go u y (Back aside over plain) = absurd (cc (closing, plain))
        go u y (On after crossed) = let never = closingly (Up ≡ Down) og m Up e u y closing crossed in cc

  -- a plain link
  module _ (plain : og.w.role e ≡ Plain) (block : og.w.lies_in e ≡ og.w.block m) (v : ℕ)
      (onward : leads og.g.links e (og.w.tail e) ≡ Some v) where
    abbrev a : ℕ
    a = og.w.tail e

    forward : og.w.order a < og.w.order v
    forward = og.ordered.links.forward e a v onward refl (λ closing. cc)

    -- it leads to a node of the block
    to_inside : Inside og m v
    to_inside = go (directs og m ring e a v onward refl block)
      where
        go : Directs og m ring.closed.greatest e a v → Inside og m v
        go (Inner x y is up) = y
        go (Out x y is) = y
        go (Home x y closing) = absurd (cc (plain, closing))

    -- from another one or from the head
    from_inside : og.w.block a ≡ og.w.block m → Inside og m a
    from_inside same = go (directs og m ring e a v onward refl block)
      where
        go : Directs og m ring.closed.greatest e a v → Inside og m a
        go (Inner x y is up) = x
        go (Out x y is) = record { within = subst (λ (z : ℕ). z < length og.g.ids) (sym x) (og.ordered.heads.head_within m ring.inside); block = same }
        go (Home x y closing) = absurd (cc (plain, closing))

    tell : (x : OrderTests) → AreLinkTests og.g og.w s t a v x → Inside og m s → Tell og m s a v x.under x.over
    tell x are source = record {
      is_under = λ yes. elim (are.under.0 yes) [
        | inl same ↦ inr (inl same)
        | inr down ↦ inr (inr (to_inside, way_to og m ring Down s v source to_inside down))
      ];
      not_under = λ no low. iff_false are.under no (elim low [
        | inl same ↦ inl same
        | inr down ↦
            let lower = beyond_on og m ring Down s v source down.0 down.1 in
            inr (leads_to og m ring Down s v source down.0 (λ same. omega (arith, lower, ap og.w.order same)) down.1)
      ]);
      is_over = λ not_under yes. elim (are.over.0 yes) [
        | inl same ↦ inl same
        | inr up ↦ let inside = from_inside (up.0 ∙ source.block) in inr (inside, way_to og m ring Up s a source inside up.1)
      ];
      not_over = λ no high. iff_false are.over no (elim high [
        | inl same ↦ inl same
        | inr up ↦
            let higher = beyond_on og m ring Up s a source up.0 up.1 in
            inr (up.0.block ∙ sym source.block, leads_to og m ring Up s a source up.0 (λ same. omega (arith, higher, ap og.w.order same)) up.1)
      ]);
    }

    plain_round : (blue red : ℕ) {tag : Tag} → RowWays og m s t blue red tag → (x : OrderTests) → AreLinkTests og.g og.w s t a v x
        → IsRound og rows s t (elements.Link e) (plain_color tag x)
    plain_round blue red {tag = tag} ways x are =
        subst (λ (c : Color). IsRound og rows s t (elements.Link e) c) (ap (plain_color tag) (sym (told og.w s t a v _ _ x are)))
        (round og m ring rows s t tabled (elements.Link e) a v (AsLink e v plain onward) (omega (arith, forward))
        (λ from low. omega (arith, from, low, forward)) blue red ways x.under x.over (tell x are))

  pub link_round : (block : og.w.lies_in e ≡ og.w.block m) (blue red : ℕ) {tag : Tag} → RowWays og m s t blue red tag → (color : Color)
      → LinkLine tag og.g og.w s t e color → IsRound og rows s t (elements.Link e) color
  link_round block blue red ways color (IsPlain v plain onward by) =
      subst (λ (c : Color). IsRound og rows s t (elements.Link e) c) (sym by.color_is) (plain_round plain block v onward blue red ways by.tests by.mean)
  link_round block blue red ways color (IsClosing closing is) =
      subst (λ (c : Color). IsRound og rows s t (elements.Link e) c) (sym is) (closing_round closing blue red ways)
