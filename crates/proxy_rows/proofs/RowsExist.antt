-- Two routers with a block in common have proxy rows.
use Rattle.std.proofs.Common.{◌≡◌, ◌≢◌, ◌⊎◌, ◌<◌, ◌≤◌, ◌-◌, ◌++◌, ◌∙◌, ℕ, zero, suc, Bool, true, false, List, [], ◌∷◌, Option, Some, None, slice_get, length, length-append, inl, inr, refl, sym, ap, subst, arith}
use Rattle.std.specs.Bool.{Decides}
use Rattle.std.proofs.lemmas.Bool.{cases_Bool, cases_eq, cases_lt, both_ways}
use Rattle.std.proofs.lemmas.Option.{same_Some}
use Rattle.mrt_graph.specs.declared.cert.Color.{Color}
use Rattle.mrt_graph.specs.declared.cert.Color.TheVariants.{Blue, Red}
use Rattle.mrt_graph.specs.declared.link.End.{End}
use Rattle.mrt_graph.specs.Certificate.{Certificate}
use Rattle.mrt_graph.specs.CertFields.{block_of, has_role, link_block}
use Rattle.mrt_graph.specs.FirstEnd.{IsFirstEnd}
use Rattle.mrt_graph.specs.GraphInvariant.{IsTopology}
use Rattle.mrt_graph.specs.Related.{are_unrelated}
use Rattle.mrt_graph.specs.Roles.{is_plain}
use Rattle.mrt_graph.specs.Rows.{link_of_color}
use Rattle.mrt_graph.specs.Rules.{GraphRule}
use Rattle.mrt_graph.specs.Topology.{Topology}
use Rattle.mrt_graph.proofs.EndsAt.{end_leads, list_of_ends}
use Rattle.mrt_graph.proofs.FirstPlaces.{first_of}
use Rattle.mrt_graph.proofs.ListPlaces.{pushed_at}
use Rattle.mrt_graph.proofs.ListTests.{there}
use Rattle.mrt_graph.proofs.RowsHold.{in_block_there}
use Rattle.proxy_rows.specs.declared.attachment.Attachment.{Attachment}
use Rattle.proxy_rows.specs.declared.proxy_row.Out.{Out}
use Rattle.proxy_rows.specs.declared.proxy_row.Out.TheVariants as outs
use Rattle.proxy_rows.specs.declared.proxy_row.ProxyRow.{ProxyRow}
use Rattle.proxy_rows.specs.declared.side.Side.{Side}
use Rattle.proxy_rows.specs.declared.side.Side.TheVariants.{Low, High}
use Rattle.mrt_graph.specs.AcceptedFor.{IsAcceptedFor}
use Rattle.proxy_rows.specs.Attachment.{IsAttachment}
use Rattle.proxy_rows.specs.steps.Steps.{HasNoEnd, NoneBefore}
use Rattle.proxy_rows.specs.steps.LabelledGraph.{IsGround}
use Rattle.proxy_rows.specs.declared.standing.Standing.{Standing}
use Rattle.proxy_rows.specs.declared.standing.Standing.TheVariants as places
use Rattle.proxy_rows.specs.ProxyRows.{AreProxyRows, AreRowsOf, IsBlue, IsFirstOut, IsHeadBlue, IsLinkFor, IsOnward, IsPlainToLow, IsProxyRow, IsRed, IsSideOut, Here, Over}
use Rattle.proxy_rows.specs.Standing.{IsStanding, standing_by}
use Rattle.proxy_rows.specs.Sides.{IsIn, Router, Onward, IsMember, IsOfBlock, goes_on, router_of}
use Rattle.proxy_rows.proofs.Attaching.{attached, attached_turned, orders_differ, words}
use Rattle.proxy_rows.proofs.BlockRows.{side_member, to_high}
use Rattle.proxy_rows.proofs.FirstEnds.{end_within, none_at_all}
use Rattle.proxy_rows.proofs.Grounds.{b, counts, head_within, is_higher, is_lower}
use Rattle.proxy_rows.proofs.HeadLinks.{head_red}
use Rattle.proxy_rows.proofs.OutsideRows.{outside_link}
use Rattle.proxy_rows.proofs.SideEnds.{head_end, side_end}
use Rattle.proxy_rows.proofs.Stands.{Tells, head_stands, tells}

-- something holds, or it does not
abbrev Decided : Type 0 → Type 0
Decided P = P ⊎ (P → ⊥)

decided_true : (test : Bool) → Decided (test ≡ true)
decided_true test = elim (cases_Bool test) [ inl holds ↦ inl holds | inr fails ↦ inr (λ holds. both_ways test fails holds) ]

decided_some : (o : Option ℕ) (k : ℕ) → Decided (o ≡ Some k)
decided_some None k = inr (λ is. cc)
decided_some (Some x) k = elim (cases_eq x k) [ inl same ↦ inl (ap (λ (y : ℕ). Some y) same) | inr other ↦ inr (λ is. other (same_Some x k is)) ]

and_then : (P Q : Type 0) → Decided P → (P → Decided Q) → Decided (P × Q)
and_then P Q first second = elim first [
  | inr none ↦ inr (λ both. none both.0)
  | inl p ↦ elim (second p) [ inl q ↦ inl (p, q) | inr none ↦ inr (λ both. none both.1) ]
]

told_as : (P Q : Type 0) → (P → Q) → (Q → P) → Decided P → Decided Q
told_as P Q there back decided = elim decided [ inl p ↦ inl (there p) | inr none ↦ inr (λ q. none (back q)) ]

-- the end at a place does not have what is asked for, or it has it
abbrev NoneAt : (End → Type 0) → List End → ℕ → Type 0
NoneAt Asked ends k = (end : End) → slice_get ends k ≡ Some end → Asked end → ⊥

abbrev OneAt : (End → Type 0) → List End → ℕ → Type 0
OneAt Asked ends k = (end : End) × (slice_get ends k ≡ Some end) × Asked end

-- of ends, each of which has what is asked for or does not, there is a first one, or none has it
first_or_none : (g : Topology) (Asked : End → Type 0) (v : ℕ) (ends : List End) → slice_get g.ends v ≡ Some ends
    → ((k : ℕ) (end : End) → slice_get ends k ≡ Some end → Decided (Asked end)) → ((end : End) × IsFirstEnd g Asked v end) ⊎ NoneBefore Asked ends (length ends)
first_or_none g Asked v ends list decided = elim (first_of (NoneAt Asked ends) (OneAt Asked ends) (length ends) each) [
  | inl none ↦ inr (λ k end less at. none k less end at)
  | inr found ↦
      let end = found.1.1.0 in
      inl (end.0, record { ends = ends; list = list; place = found.0; there = end.1; asked = end.2; none_before = λ k other less at. found.1.1.1 k less other at })
]
  where
    each : (k : ℕ) → k < length ends → NoneAt Asked ends k ⊎ OneAt Asked ends k
    each k within =
        let end = there ends k within in
        elim (decided k end.0 end.1) [
          | inl asked ↦ inr (end.0, end.1, asked)
          | inr not_asked ↦ inl (λ other at asked. not_asked (subst Asked (same_Some other end.0 (sym at ∙ end.1)) asked))
        ]

module _ (g : Topology) (c : Certificate) (at : Attachment) (ground : IsGround g c at) where
  count_is : length c.nodes ≡ length g.ids
  count_is = (counts g c at ground).nodes

  -- a number that falls where one goes on
  rank : Side → ℕ → ℕ
  rank Low s = (b g c at ground).most - (words g c ground.accepted).order s
  rank High s = (words g c ground.accepted).order s

  rank_falls : (side : Side) (s v : ℕ) → v < length c.nodes → goes_on c side s v ≡ true → rank side v < rank side s
  unfolding rank
  rank_falls Low s v within on = omega (arith, is_lower g c at ground s v on, (b g c at ground).order_within v within)
  rank_falls High s v within on = is_higher g c at ground s v on

  -- an end leads on along a side, or it does not
  decided_onward : (side : Side) (s : ℕ) (end : End) → ((v : ℕ) → goes_on c side s v ≡ true → v ≡ end.to → Decided (IsIn g.links c at side v)) → Decided (IsOnward g c at side s end)
  decided_onward side s end decided =
      told_as (IsOfBlock c at end.link × ((goes_on c side s end.to ≡ true) × IsIn g.links c at side end.to)) (IsOnward g c at side s end)
      (λ is. record { of_block = is.0; within = is.1.1; onward = is.1.0 }) (λ asked. (asked.of_block, (asked.onward, asked.within)))
      (and_then _ _ (decided_some (link_block c end.link) at.block)
      (λ of. and_then _ _ (decided_true (goes_on c side s end.to)) (λ on. decided end.to on refl)))

  -- a node is on a side, or it is not
  decided_by_end : (side : Side) (s : ℕ) → s < length g.ids → IsMember c at s → s ≢ router_of at side → (ends : List End) → slice_get g.ends s ≡ Some ends
      → ((end : End) × IsFirstEnd g (IsOnward g c at side s) s end) ⊎ NoneBefore (IsOnward g c at side s) ends (length ends) → Decided (IsIn g.links c at side s)
  decided_by_end side s within member other ends list (inl found) =
      let end = found.0 in
      let first = found.1 in
      inl (Onward s end.link end.to member first.asked.of_block (end_leads g s first.place first.ends end ground.kept first.list first.there) first.asked.onward first.asked.within)
  decided_by_end side s within member other ends list (inr none) =
      inr (λ is. side_end g c at ground.kept side s within other is (none_at_all g (IsOnward g c at side s) s (length ends) ends list (omega arith) none))

  decided_in_by : (bound : ℕ) (side : Side) (s : ℕ) → s < length g.ids → rank side s < bound → Decided (IsIn g.links c at side s)
  decided_in_by zero side s within less = absurd (omega (arith, less))
  decided_in_by (suc bound) side s within less = elim (decided_some (block_of c s) at.block) [
    | inr outside ↦ inr (λ is. outside (side_member g c at ground side s is))
    | inl member ↦ elim (cases_eq s (router_of at side)) [
      | inl same ↦ inl (Router s same member)
      | inr other ↦ go (decided_in_by bound side) member other
    ]
  ]
    where
      go : ((v : ℕ) → v < length g.ids → rank side v < bound → Decided (IsIn g.links c at side v)) → IsMember c at s → s ≢ router_of at side → Decided (IsIn g.links c at side s)
      go ih member other =
          let list = list_of_ends g s ground.kept within in
          decided_by_end side s within member other list.0 list.1
          (first_or_none g (IsOnward g c at side s) s list.0 list.1
          (λ k end at_k.
          let inside = end_within g c at ground s k list.0 end list.1 at_k in
          decided_onward side s end (λ v on same.
          let v_within : v < length c.nodes = omega (arith, inside.1, same) in
          ih v (omega (arith, v_within, count_is)) (omega (arith, less, rank_falls side s v v_within on)))))

  decided_in : (side : Side) (s : ℕ) → s < length g.ids → Decided (IsIn g.links c at side s)
  decided_in side s within = decided_in_by (suc (rank side s)) side s within (omega arith)

  -- a node that is not attached itself has an end to go over
  out_there : (Itself : Type 0) (Asked : End → Type 0) (v : ℕ) → v < length g.ids → Decided Itself → ((end : End) → end.to < length g.ids → Decided (Asked end))
      → (¬ Itself → HasNoEnd g Asked v → ⊥) → (out : Out) × IsFirstOut g Itself Asked v out
  out_there Itself Asked v within itself decided some = elim itself [
    | inl same ↦ (outs.Attached, Here same)
    | inr other ↦
        let list = list_of_ends g v ground.kept within in
        elim (first_or_none g Asked v list.0 list.1
        (λ k end at_k.
        let inside = end_within g c at ground v k list.0 end list.1 at_k in
        decided end (omega (arith, inside.1, count_is)))) [
          | inl found ↦ (outs.Link found.0.link, Over found.0 other found.1)
          | inr none ↦ absurd (some other (none_at_all g Asked v (length list.0) list.0 list.1 (omega arith) none))
        ]
  ]

  head_blue_there : (out : Out) × IsHeadBlue g c at out
  head_blue_there =
      out_there (at.head ≡ at.lower) (IsPlainToLow g c at) at.head (omega (arith, head_within g c at ground, count_is)) (cases_eq at.head at.lower) plain_decided (head_end g c at ground)
    where
      plain_decided : (end : End) → end.to < length g.ids → Decided (IsPlainToLow g c at end)
      plain_decided end within =
          told_as (IsOfBlock c at end.link × ((has_role is_plain c end.link ≡ true) × IsIn g.links c at Low end.to)) (IsPlainToLow g c at end)
          (λ is. record { of_block = is.0; plain = is.1.0; low = is.1.1 }) (λ asked. (asked.of_block, (asked.plain, asked.low)))
          (and_then _ _ (decided_some (link_block c end.link) at.block)
          (λ of. and_then _ _ (decided_true (has_role is_plain c end.link)) (λ plain. decided_in Low end.to within)))

  side_out_there : (side : Side) (s : ℕ) → s < length g.ids → IsIn g.links c at side s → (out : Out) × IsSideOut g c at side s out
  side_out_there side s within is =
      out_there (s ≡ router_of at side) (IsOnward g c at side s) s within (cases_eq s (router_of at side))
      (λ end to_within. decided_onward side s end (λ v on same. decided_in side v (omega (arith, to_within, same))))
      (λ other none. side_end g c at ground.kept side s within other is none)

  -- each node stands somewhere
  test_of : (P : Type 0) → Decided P → (test : Bool) × Decides test P
  test_of P decided = elim decided [ inl p ↦ (true, (λ yes. p, λ p. refl)) | inr none ↦ (false, (λ yes. absurd (cc), λ p. absurd (none p))) ]

  standing_there : (s : ℕ) → s < length g.ids → (p : Standing) × IsStanding g.links c at s p
  standing_there s within =
      let head = test_of _ (cases_eq s at.head) in
      let low = test_of _ (decided_in Low s within) in
      let high = test_of _ (decided_in High s within) in
      let member = test_of _ (decided_some (block_of c s) at.block) in (
        standing_by head.0 low.0 high.0 member.0,
        record {
          head = head.0;
          low = low.0;
          high = high.0;
          member = member.0;
          is_head = head.1;
          is_low = low.1;
          is_high = high.1;
          is_member = member.1;
          standing_is = refl;
        },
      )

  -- a node other than the head has a row for it
  link_there : (color : Color) (s : ℕ) → s < length g.ids → s ≢ at.head → (out : Out) × IsLinkFor c color s at.head out
  link_there color s within other =
      let row =
      in_block_there g ground.accepted.root _ ground.accepted.accepted s at.head (omega (arith, within, count_is)) (head_within g c at ground) other in
      (outs.Link (link_of_color color row.value), record { row = row.value; row_is = row.is; out_is = refl })

  -- each node has a row
  outs_there : (s : ℕ) → s < length g.ids → (p : Standing) → IsStanding g.links c at s p → Tells g.links c at s p
      → ((out : Out) × IsBlue p g c at s out) × ((out : Out) × IsRed p g c at s out)
  outs_there s within places.Head is top = (head_blue_there, (outs.Link (to_high g c at ground).hop.link, head_red g c at ground))
  outs_there s within places.OnLow is low =
      let other : s ≢ at.head = λ same. absurd (cc (head_stands g.links c at s places.OnLow is same)) in
      (side_out_there Low s within low, link_there Red s within other)
  outs_there s within places.OnHigh is high =
      let other : s ≢ at.head = λ same. absurd (cc (head_stands g.links c at s places.OnHigh is same)) in
      (link_there Blue s within other, side_out_there High s within high)
  outs_there s within places.Other is tell =
      let other : s ≢ at.head = λ same. absurd (cc (head_stands g.links c at s places.Other is same)) in
      (link_there Red s within other, link_there Blue s within other)
  outs_there s within places.Outside is outside =
      let other : s ≢ at.head = λ same. outside (inr same) in
      let in_count : s < length c.nodes = omega (arith, within, count_is) in
      let blue = link_there Blue s within other in
      let red = link_there Red s within other in
      ((blue.0, outside_link g c at ground Blue s in_count outside blue.0 blue.1), (red.0, outside_link g c at ground Red s in_count outside red.0 red.1))

  row_there : (s : ℕ) → s < length g.ids → (row : ProxyRow) × IsProxyRow g c at s row
  row_there s within =
      let p = standing_there s within in
      let sent = outs_there s within p.0 p.1 (tells g.links c at s p.0 p.1) in
      (record { blue = sent.0.0; red = sent.1.0 }, record { standing = p.0; stands = p.1; blue = sent.0.1; red = sent.1.1 })

  -- and the first so many nodes have rows
  record Firsts (n : ℕ) : Type 0 where
    rows : List ProxyRow
    many : length rows ≡ n
    each : (s : ℕ) (row : ProxyRow) → slice_get rows s ≡ Some row → IsProxyRow g c at s row

  firsts : (n : ℕ) → n ≤ length g.ids → Firsts n
  firsts zero within = record { rows = []; many = refl; each = λ s row at_s. absurd (cc) }
  firsts (suc n) within =
      let before = firsts n (omega (arith, within)) in
      let last = row_there n (omega (arith, within)) in
      record {
        rows = before.rows ++ last.0 ∷ [];
        many = omega (arith, before.many, length-append before.rows (last.0 ∷ []));
        each = λ s row at_s.
            elim (pushed_at before.rows last.0 row s at_s) [
              | inl early ↦ before.each s row early
              | inr now ↦
                  let here : n ≡ s = sym (now.0 ∙ before.many) in
                  subst (IsProxyRow g c at s) now.1 (subst (λ (i : ℕ). IsProxyRow g c at i last.0) here last.1)
            ];
      }

  pub rows_there : (rows : List ProxyRow) × AreRowsOf g c at rows
  rows_there = let all = firsts (length g.ids) (omega arith) in (all.rows, record { one_each = all.many; each = all.each })

-- two routers have an attachment, or no block in common
attachment_there : (g : Topology) (c : Certificate) → IsAcceptedFor g c → (a b : ℕ) → a < length g.ids → b < length g.ids → a ≢ b → are_unrelated c a b ≡ false
    → (at : Attachment) × IsAttachment c a b at
attachment_there g c accepted a b a_within b_within differ related =
    let same = (accepted.accepted GraphRule).counts.nodes in
    let one = there c.nodes a (omega (arith, a_within, same)) in
    let other = there c.nodes b (omega (arith, b_within, same)) in
    let apart = orders_differ g c accepted a b one.0 other.0 one.1 other.1 differ in
    elim (cases_lt one.0.order other.0.order) [
      | inl less ↦ (_, attached g c accepted a b one.0 other.0 one.1 other.1 differ related less)
      | inr above ↦ (_, attached_turned g c accepted a b one.0 other.0 one.1 other.1 differ related (omega (arith, above, apart)))
    ]

pub rows_or_none : (g : Topology) (c : Certificate) (a b : ℕ) → IsTopology g → IsAcceptedFor g c → a < length g.ids → b < length g.ids → a ≢ b
    → ((rows : List ProxyRow) × AreProxyRows g c a b rows) ⊎ (are_unrelated c a b ≡ true)
rows_or_none g c a b kept accepted a_within b_within differ = elim (cases_Bool (are_unrelated c a b)) [
  | inl unrelated ↦ inr unrelated
  | inr related ↦
      let at = attachment_there g c accepted a b a_within b_within differ related in
      let rows = rows_there g c at.0 (record { kept = kept; accepted = accepted; a = a; b = b; attached = at.1 }) in
      inl (rows.0, record { at = at.0; attached = at.1; rows = rows.1 })
]
