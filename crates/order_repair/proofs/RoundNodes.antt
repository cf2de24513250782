-- A failed node that the color of the table goes round.
use Rattle.std.proofs.Common.{◌≡◌, ◌≢◌, ◌⊎◌, ◌∙◌, ◌<◌, ◌&&◌, ℕ, Bool, length, ltb, leb, refl, sym, ap, subst, inl, inr, arith}
use Rattle.std.proofs.lemmas.Bool.{iff_false}
use Rattle.std.proofs.lemmas.Bool.Decides.{nat_tests}
use Rattle.mrt_graph.specs.declared.cert.Color.{Color}
use Rattle.mrt_graph.specs.declared.cert.Tag.{Tag}
use Rattle.mrt_graph.specs.declared.cert.Tag.TheVariants as tags
use Rattle.mrt_graph.specs.declared.link.Element.TheVariants as elements
use Rattle.mrt_graph.specs.Rows.{Rows}
use Rattle.block_spf.specs.declared.reach.Dir.TheVariants.{Down, Up}
use Rattle.mrt_rows.specs.RowsOf.{HasRow}
use Rattle.mrt_rows.proofs.OrderedGraphs.{OrderedGraph}
use Rattle.mrt_rows.proofs.Ways.{Inside, Ring, inside_head}
use Rattle.order_repair.specs.declared.order_tests.OrderTests.{OrderTests}
use Rattle.order_repair.specs.ColorTable.{beside_color, blue_where, node_color, plain_color, red_where}
use Rattle.order_repair.specs.Failed.{IsNodeOf}
use Rattle.order_repair.specs.OrderChoice.{AreNodeTests}
use Rattle.order_repair.proofs.Round.{AsNode, IsRound, leads_to, way_to}
use Rattle.order_repair.proofs.RoundFailed.{Tell, round, told}
use Rattle.order_repair.proofs.RowWays.{RowWays}

-- a node that is neither of the two has the color of a plain link that leads from it to it
less_or_same : (i j : ℕ) → i ≢ j → ltb i j ≡ leb i j
less_or_same i j other = grind (arith, nat_tests)

as_link : (tag : Tag) (source to at : ℕ) (under over : Bool) → at ≢ source → at ≢ to
    → plain_color tag (record { source = source; to = to; from = at; onto = at; under = under; over = over })
    ≡ node_color tag (record { source = source; to = to; from = at; onto = at; under = under; over = over })
as_link tag source to at under over not_source not_to = go tag
  where
    x : OrderTests
    x = record { source = source; to = to; from = at; onto = at; under = under; over = over }

    after_source : ltb source at ≡ leb source at
    after_source = less_or_same source at (λ same. not_source (sym same))

    before_source : ltb at source ≡ leb at source
    before_source = less_or_same at source not_source

    after_to : ltb to at ≡ leb to at
    after_to = less_or_same to at (λ same. not_to (sym same))

    before_to : ltb at to ≡ leb at to
    before_to = less_or_same at to not_to

    go : (tag : Tag) → plain_color tag x ≡ node_color tag x
    go tags.Head = ap red_where (sym after_source)
    go tags.Top = ap red_where (sym before_to)
    go tags.Below = ap (λ (b : Bool). red_where (b && leb at to)) (sym after_source) ∙ ap (λ (b : Bool). red_where (ltb source at && b)) (sym before_to)
    go tags.Above = ap (λ (b : Bool). blue_where (b && leb at source)) (sym after_to) ∙ ap (λ (b : Bool). blue_where (ltb to at && b)) (sym before_source)
    go tags.Unordered = ap (beside_color x) (sym after_to)
    go tags.Sole = refl
    go tags.Carried = refl

module _ (og : OrderedGraph) (m : ℕ) (ring : Ring og m) (rows : Rows) (s t : ℕ)
    (tabled : (u : ℕ) → u < length og.g.ids → u ≢ t → HasRow og.g og.root og.w u (rows u) t) (s_within : s < length og.g.ids) (t_within : t < length og.g.ids)
    (f : ℕ) (lies : IsNodeOf og.g og.w (og.w.block m) (og.w.head m) f) (not_s : f ≢ s) (not_t : f ≢ t) where
  -- orders tell nodes apart
  orders_differ : (u : ℕ) → u < length og.g.ids → f ≢ u → og.w.order f ≢ og.w.order u
  orders_differ u within other = λ same. other (og.ordered.orders.differ f u lies.within within same)

  -- the node is no head, or it is the block's
  node_at : Inside og m f ⊎ (f ≡ og.w.head m)
  node_at = elim lies.in_block [
    | inl block ↦ inl (record { within = lies.within; block = block })
    | inr home ↦ inr home
  ]

  tell : (x : OrderTests) → AreNodeTests og.g og.w s t f x → Inside og m s → Tell og m s f f x.under x.over
  tell x are source = record {
    is_under = λ yes. elim (are.under.0 yes) [
      | inl head ↦ inl (head ∙ inside_head og m ring s source)
      | inr down ↦ elim node_at [
        | inl inside ↦ inr (inr (inside, way_to og m ring Down s f source inside down))
        | inr home ↦ inl home
      ]
    ];
    not_under = λ no low. elim low [
      | inl same ↦ not_s same
      | inr down ↦ iff_false are.under no (inr (leads_to og m ring Down s f source down.0 (λ same. not_s (sym same)) down.1))
    ];
    is_over = λ not_under yes. elim node_at [
      | inl inside ↦ inr (inside, way_to og m ring Up s f source inside (are.over.0 yes))
      | inr home ↦ absurd (iff_false are.under not_under (inl (home ∙ sym (inside_head og m ring s source))))
    ];
    not_over = λ no high. elim high [
      | inl same ↦ not_s same
      | inr up ↦ iff_false are.over no (leads_to og m ring Up s f source up.0 (λ same. not_s (sym same)) up.1)
    ];
  }

  pub node_round : (blue red : ℕ) {tag : Tag} → RowWays og m s t blue red tag → (x : OrderTests) → AreNodeTests og.g og.w s t f x
      → IsRound og rows s t (elements.Node f) (node_color tag x)
  node_round blue red {tag = tag} ways x are =
      subst (λ (c : Color). IsRound og rows s t (elements.Node f) c)
      (as_link tag (og.w.order s) (og.w.order t) (og.w.order f) x.under x.over (orders_differ s s_within not_s) (orders_differ t t_within not_t)
      ∙ ap (node_color tag) (sym (told og.w s t f f _ _ x are)))
      (round og m ring rows s t tabled (elements.Node f) f f (AsNode f not_t) (omega arith)
      (λ from low. orders_differ s s_within not_s (omega (arith, from, low))) blue red ways x.under x.over (tell x are))
