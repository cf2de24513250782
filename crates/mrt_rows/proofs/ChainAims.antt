-- The aims along the heads above a destination are where its rows are carried from.
use Rattle.std.proofs.Common.{◌≡◌, ◌≢◌, ◌⊎◌, ◌∙◌, ◌<◌, ◌≤◌, ℕ, List, Option, Some, None, length, slice_get, inl, inr, refl, sym, ap, subst, arith}
use Rattle.std.proofs.lemmas.Bool.{cases_eq}
use Rattle.std.proofs.lemmas.Option.{same_Some}
use Rattle.mrt_graph.specs.declared.cert.Row.{Row}
use Rattle.mrt_graph.specs.Tags.{carried}
use Rattle.link_direction.specs.CommonBlock.{FromHead, HaveCommonBlock, Peers, ToHead}
use Rattle.link_direction.specs.Directions.{Directions}
use Rattle.mrt_rows.specs.Chain.{AreBelow, ByHead, Climbs, There}
use Rattle.mrt_rows.specs.steps.Chain.{AtHome, Beside, IsRowAim, Under}
use Rattle.mrt_rows.proofs.Carriers.{by_other, by_root}
use Rattle.mrt_rows.proofs.OneRow.{IsRowFor, far_over}
use Rattle.mrt_rows.proofs.OrderedGraphs.{OrderedGraph}

-- one head further
pub climb_on : (root : ℕ) (w : Directions) (t c : ℕ) → Climbs root w t c → c ≢ root → Climbs root w t (w.head c)
climb_on root w t c (There same) other = ByHead (λ at_root. other (sym same ∙ at_root)) (There (ap w.head same))
climb_on root w t c (ByHead not_root rest) other = ByHead not_root (climb_on root w (w.head t) c rest other)

-- from the root one comes to the root alone
pub root_alone : (root : ℕ) (w : Directions) (c b : ℕ) → c ≡ root → Climbs root w c b → b ≡ root
root_alone root w c b at_root (There same) = sym same ∙ at_root
root_alone root w c b at_root (ByHead other rest) = absurd (other at_root)

module _ (og : OrderedGraph) where
  abbrev n : ℕ
  n = length og.g.ids

  abbrev w : Directions
  w = og.w

  head_low : (c : ℕ) → c < n → w.order (w.head c) ≤ w.order c
  head_low c within = elim (cases_eq c og.root) [
    | inl at_root ↦ omega (arith, ap w.order (ap w.head at_root ∙ og.ordered.heads.root_head ∙ sym at_root))
    | inr other ↦ omega (arith, og.ordered.heads.lower c within other)
  ]

  -- orders do not rise on the way
  pub climb_low : (c b : ℕ) → c < n → Climbs og.root w c b → (b < n) × (w.order b ≤ w.order c)
  climb_low c b within (There same) = (omega (arith, within, same), omega (arith, ap w.order same))
  climb_low c b within (ByHead other rest) =
      let it = climb_low (w.head c) b (og.ordered.heads.head_within c within) rest in
      (it.0, omega (arith, it.1, og.ordered.heads.lower c within other))

  -- where one comes further than c, one comes from its head
  pub further : (c b : ℕ) → b ≢ c → Climbs og.root w c b → (c ≢ og.root) × Climbs og.root w (w.head c) b
  further c b apart (There same) = absurd (apart (sym same))
  further c b apart (ByHead other rest) = (other, rest)

  -- to another node one comes over a node whose head it is
  last_step : (t x : ℕ) → t ≢ x → Climbs og.root w t x → (c : ℕ) × Climbs og.root w t c × (c ≢ og.root) × (w.head c ≡ x)
  last_step t x other (There same) = absurd (other same)
  last_step t x other (ByHead not_root rest) = elim (cases_eq (w.head t) x) [
    | inl there ↦ (t, There refl, not_root, there)
    | inr above ↦ let it = last_step (w.head t) x above rest in (it.0, ByHead not_root it.1, it.2, it.3)
  ]

  module _ (t : ℕ) (t_within : t < n) (below : List (Option ℕ)) (are : AreBelow og.g og.root w t below) where
    -- the node below s is there where one comes over it
    not_over : (s b : ℕ) → slice_get below s ≡ Some None → Climbs og.root w t b → b ≢ og.root → w.head b ≢ s
    not_over s b none to_b other top =
        let there : slice_get below s ≡ Some (Some b) = ap (λ (v : ℕ). slice_get below v) (sym top) ∙ are.all b to_b other in
        let same = same_Some None (Some b) (sym none ∙ there) in (cc)

    -- a node that has none below it is the root only where t is
    not_root : (s : ℕ) → s ≢ t → slice_get below s ≡ Some None → s ≢ og.root
    not_root s apart none at_root =
        let it = last_step t og.root (λ t_root. apart (at_root ∙ sym t_root)) are.ends in
        not_over s it.0 none it.1 it.2 (it.3 ∙ sym at_root)

    -- none of the nodes before the aim has a block in common with s, where the head of s is not above that of the aim
    before_apart : (s aim b k h : ℕ) → s < n → Climbs og.root w t aim → aim ≢ og.root → w.order (w.head s) ≤ w.order (w.head aim)
        → (w.order aim ≤ w.order (w.head b) → w.head b ≢ s) → Climbs og.root w t b → b ≢ aim → Climbs og.root w b aim → ¬ HaveCommonBlock w s b k h
    before_apart s aim b k h s_within to_aim aim_other head_below not_top to_b apart from_b common =
        let b_within = (climb_low t b t_within to_b).0 in
        let lower = og.ordered.heads.lower aim (climb_low t aim t_within to_aim).0 aim_other in
        let on = further b aim (λ same. apart (sym same)) from_b in
        let low = (climb_low (w.head b) aim (og.ordered.heads.head_within b b_within) on.1).1 in
        elim common [
          | Peers at_s at_b top ↦
              let same = og.ordered.heads.one_head s b s_within b_within (at_s ∙ sym at_b) in
              omega (arith, low, lower, head_below, ap w.order same)
          | ToHead at_s top is_top ↦ omega (arith, low, lower, head_below, ap w.order top, head_low b b_within)
          | FromHead at_b top is_top ↦ not_top low top
        ]

    home_apart : (s b k h : ℕ) → s < n → s ≢ t → slice_get below s ≡ Some None
        → ((c : ℕ) → slice_get below (w.head s) ≡ Some (Some c) → w.block c ≢ w.block s) → Climbs og.root w t b → b ≢ w.head s
        → ¬ HaveCommonBlock w s b k h
    home_apart s b k h s_within apart none no_peer to_b not_head common =
        let s_other = not_root s apart none in
        let b_within = (climb_low t b t_within to_b).0 in
        elim common [
          | Peers at_s at_b top ↦
              let b_other : b ≢ og.root = λ b_root.
              og.ordered.heads.alone s s_within s_other (at_s ∙ sym at_b ∙ ap w.block b_root ∙ og.ordered.heads.root_block) in
              let head = og.ordered.heads.one_head b s b_within s_within (at_b ∙ sym at_s) in
              no_peer b (ap (λ (v : ℕ). slice_get below v) (sym head) ∙ are.all b to_b b_other) (at_b ∙ sym at_s)
          | ToHead at_s top is_top ↦ not_head (sym top)
          | FromHead at_b top is_top ↦
              not_over s b none to_b (λ b_root. s_other (sym top ∙ ap w.head b_root ∙ og.ordered.heads.root_head)) top
        ]

    -- up to a node on the way
    carried_up : (s c aim : ℕ) (near : Row) → IsRowFor og s aim near → Climbs og.root w t c → Climbs og.root w c aim → c ≢ aim
        → ((b j i : ℕ) → Climbs og.root w t b → b ≢ aim → Climbs og.root w b aim → ¬ HaveCommonBlock w s b j i) → IsRowFor og s c (carried near)
    carried_up s c aim near is to_c (There same) differ apart = absurd (differ same)
    carried_up s c aim near is to_c (ByHead other rest) differ apart =
        let none = λ (j i : ℕ). apart c j i to_c differ (ByHead other rest) in
        elim (cases_eq (w.head c) aim) [
          | inl same ↦ far_over og s c aim near none (by_other w og.root s c other ∙ same) is
          | inr above ↦
              far_over og s c (w.head c) (carried near) none (by_other w og.root s c other)
              (carried_up s (w.head c) aim near is (climb_on og.root w t c to_c other) rest above apart)
        ]

    -- up to the root
    carried_home : (s c : ℕ) (near : Row) → IsRowFor og s (w.head s) near → Climbs og.root w t c → Climbs og.root w c og.root
        → ((b j i : ℕ) → Climbs og.root w t b → ¬ HaveCommonBlock w s b j i) → IsRowFor og s c (carried near)
    carried_home s c near is to_c (There same) apart = far_over og s c (w.head s) near (λ j i. apart c j i to_c) (by_root w og.root s c same) is
    carried_home s c near is to_c (ByHead other rest) apart =
        far_over og s c (w.head c) (carried near) (λ j i. apart c j i to_c) (by_other w og.root s c other)
        (carried_home s (w.head c) near is (climb_on og.root w t c to_c other) rest apart)

    -- whether one comes to a node
    on_way_or_not : (x c : ℕ) → Climbs og.root w c og.root → Climbs og.root w c x ⊎ (Climbs og.root w c x → ⊥)
    on_way_or_not x c (There at_root) = elim (cases_eq c x) [
      | inl same ↦ inl (There same)
      | inr other ↦ inr (λ it. other (at_root ∙ sym (root_alone og.root w c x at_root it)))
    ]
    on_way_or_not x c (ByHead not_root rest) = elim (cases_eq c x) [
      | inl same ↦ inl (There same)
      | inr other ↦ elim (on_way_or_not x (w.head c) rest) [
        | inl it ↦ inl (ByHead not_root it)
        | inr none ↦ inr (λ it. none (further c x (λ same. other (sym same)) it).1)
      ]
    ]

    -- the row of s for t is that for its aim, carried
    pub carried_to : (s aim : ℕ) (near : Row) → s < n → s ≢ t → aim ≢ t → IsRowAim w below s aim → IsRowFor og s aim near → IsRowFor og s t (carried near)
    carried_to s aim near within apart differ (Under at) is =
        let it = are.is_below s aim at in
        let lower = og.ordered.heads.lower aim (climb_low t aim t_within it.0).0 it.1 in
        carried_up s t aim near is (There refl) it.0 (λ same. differ (sym same))
        (λ b j i. before_apart s aim b j i within it.0 it.1 (omega (arith, head_low s within, ap w.order it.2))
        (λ low top. omega (arith, low, lower, ap w.order it.2, ap w.order top)))
    carried_to s aim near within apart differ (Beside none at peers) is =
        let it = are.is_below (w.head s) aim at in
        carried_up s t aim near is (There refl) it.0 (λ same. differ (sym same)) (λ b j i to_b b_differ from_b.
        let b_other = (further b aim (λ same. b_differ (sym same)) from_b).0 in
        before_apart s aim b j i within it.0 it.1 (omega (arith, ap w.order it.2)) (λ low. not_over s b none to_b b_other) to_b b_differ from_b)
    carried_to s aim near within apart differ (AtHome none no_peer same) is =
        let home = subst (λ (a : ℕ). IsRowFor og s a near) same is in
        elim (on_way_or_not (w.head s) t are.ends) [
          | inl to_head ↦
              carried_up s t (w.head s) near home (There refl) to_head (λ at_head. differ (same ∙ sym at_head))
              (λ b j i to_b b_differ from_b. home_apart s b j i within apart none no_peer to_b b_differ)
          | inr off ↦
              carried_home s t near home (There refl) are.ends (λ b j i to_b.
              home_apart s b j i within apart none no_peer to_b (λ same_b. off (subst (λ (v : ℕ). Climbs og.root w t v) same_b to_b)))
        ]

    -- another node does not aim at itself
    pub aim_apart : (s aim : ℕ) → s < n → s ≢ t → IsRowAim w below s aim → aim ≢ s
    aim_apart s aim within apart (Under at) same =
        let it = are.is_below s aim at in
        omega (arith, og.ordered.heads.lower aim (climb_low t aim t_within it.0).0 it.1, ap w.order it.2, ap w.order same)
    aim_apart s aim within apart (Beside none at peers) same =
        let it = are.is_below (w.head s) aim at in
        let step = last_step t s (λ back. apart (sym back)) (subst (λ (v : ℕ). Climbs og.root w t v) same it.0) in
        absurd (not_over s step.0 none step.1 step.2 step.3)
    aim_apart s aim within apart (AtHome none no_peer home) same =
        omega (arith, og.ordered.heads.lower s within (not_root s apart none), ap w.order (sym home ∙ same))

    -- s and its aim have a block in common
    pub aim_near : (s aim : ℕ) → IsRowAim w below s aim → (k : ℕ) × (h : ℕ) × HaveCommonBlock w s aim k h
    aim_near s aim (Under at) = let it = are.is_below s aim at in (w.block aim, s, FromHead refl it.2 refl)
    aim_near s aim (Beside none at peers) = (w.block s, w.head s, Peers refl peers refl)
    aim_near s aim (AtHome none no_peer same) = (w.block s, w.head s, subst (λ (a : ℕ). HaveCommonBlock w s a (w.block s) (w.head s)) (sym same) (ToHead refl refl refl))

    pub aim_within : (s aim : ℕ) → s < n → IsRowAim w below s aim → aim < n
    aim_within s aim within (Under at) = (climb_low t aim t_within (are.is_below s aim at).0).0
    aim_within s aim within (Beside none at peers) = (climb_low t aim t_within (are.is_below (w.head s) aim at).0).0
    aim_within s aim within (AtHome none no_peer same) = subst (λ (a : ℕ). a < n) (sym same) (og.ordered.heads.head_within s within)
