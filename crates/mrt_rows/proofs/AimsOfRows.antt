-- What the blocks aim at is what the rows for a destination are for.
use Rattle.std.proofs.Common.{◌≡◌, ◌≢◌, ◌∙◌, ◌<◌, ℕ, Bool, true, List, Option, Some, None, length, slice_get, inl, inr, refl, sym, ap, subst, arith}
use Rattle.std.proofs.lemmas.Bool.{cases_eq}
use Rattle.link_direction.specs.CommonBlock.{FromHead, HaveCommonBlock, Peers, ToHead}
use Rattle.link_direction.specs.Directions.{Directions}
use Rattle.block_spf.specs.BlockAims.{IsAimOf}
use Rattle.block_spf.specs.LeastPath.{HasMoreLinks, HaveCommonBlockOfMoreLinks}
use Rattle.link_direction.proofs.OneBlock.{one_block}
use Rattle.mrt_rows.specs.Chain.{AreBelow, AreWayAims, ByHead, Climbs, There}
use Rattle.mrt_rows.specs.steps.Chain.{AtHome, Beside, IsRowAim, Under}
use Rattle.mrt_rows.proofs.ChainAims.{climb_low, climb_on, further}
use Rattle.mrt_rows.proofs.OrderedGraphs.{OrderedGraph, is_ordered}

module _ (og : OrderedGraph) where
  abbrev n : ℕ
  n = length og.g.ids

  abbrev w : Directions
  w = og.w

  -- a node of the root's block is the root
  root_of_block : (v : ℕ) → v < n → w.block v ≡ w.block og.root → v ≡ og.root
  root_of_block v within same = elim (cases_eq v og.root) [
    | inl at_root ↦ at_root
    | inr other ↦ absurd (og.ordered.heads.alone v within other (same ∙ og.ordered.heads.root_block))
  ]

  -- the root lies in no block with another node but those that it heads
  root_heads : (s u k h : ℕ) → s ≡ og.root → u < n → s ≢ u → HaveCommonBlock w s u k h → k ≢ w.block s
  root_heads s u k h at_root u_within two (Peers a b c) same =
      two (at_root ∙ sym (root_of_block u u_within (b ∙ same ∙ ap w.block at_root)))
  root_heads s u k h at_root u_within two (ToHead a b c) same =
      two (at_root ∙ sym og.ordered.heads.root_head ∙ ap w.head (sym at_root) ∙ b)
  root_heads s u k h at_root u_within two (FromHead a b c) same =
      two (at_root ∙ sym (root_of_block u u_within (a ∙ same ∙ ap w.block at_root)))

  -- the block that s has in common with a, where a is not the head of s, is that of a
  pub own_block : (s a k h : ℕ) → HaveCommonBlock w s a k h → w.head s ≢ a → k ≡ w.block a
  own_block s a k h (Peers x y z) away = sym y
  own_block s a k h (ToHead x y z) away = absurd (away y)
  own_block s a k h (FromHead x y z) away = sym x

  -- the block that two nodes have in common has a number below the count of nodes
  pub common_within : (s u k h : ℕ) → s < n → u < n → HaveCommonBlock w s u k h → k < n
  common_within s u k h within u_within (Peers x y z) = subst (λ (b : ℕ). b < n) x (og.ordered.heads.block_within s within)
  common_within s u k h within u_within (ToHead x y z) = subst (λ (b : ℕ). b < n) x (og.ordered.heads.block_within s within)
  common_within s u k h within u_within (FromHead x y z) = subst (λ (b : ℕ). b < n) x (og.ordered.heads.block_within u u_within)

  -- two nodes on a way that have one head are the same
  one_under : (t a c : ℕ) → t < n → Climbs og.root w t a → Climbs og.root w t c → a ≢ og.root → c ≢ og.root → w.head a ≡ w.head c → a ≡ c
  one_under t a c within (There same) to_c a_other c_other heads = elim (cases_eq c t) [
    | inl at_t ↦ sym same ∙ sym at_t
    | inr apart ↦
        let low = climb_low og (w.head t) c (og.ordered.heads.head_within t within) (further og t c apart to_c).1 in
        absurd (omega (arith, low.1, og.ordered.heads.lower c low.0 c_other, ap w.order (ap w.head same), ap w.order heads))
  ]
  one_under t a c within (ByHead other rest) to_c a_other c_other heads = elim (cases_eq c t) [
    | inl at_t ↦
        let low = climb_low og (w.head t) a (og.ordered.heads.head_within t within) rest in
        absurd (omega (arith, low.1, og.ordered.heads.lower a low.0 a_other, ap w.order (ap w.head at_t), ap w.order heads))
    | inr apart ↦
        one_under (w.head t) a c (og.ordered.heads.head_within t within) rest (further og t c apart to_c).1 a_other c_other heads
  ]

  -- each node's block that aims at its head is aimed at by the node
  pub home_aim : (s : ℕ) (aim : ℕ → ℕ) → s < n → s ≢ w.head s → ((y : ℕ) → y < n → aim (w.block y) ≡ w.head y) → IsAimOf og.g w aim s (w.head s)
  home_aim s aim within two heads = record {
    aimed = λ k h common.
        let one = one_block og.g og.root w s (w.head s) k h (w.block s) (w.head s) (is_ordered og) within (og.ordered.heads.head_within s within) two common
        (ToHead refl refl refl) in
        ap aim one.0 ∙ heads s within;
    alone = λ u k h u_within apart common onward. go u k h u_within common onward;
  }
    where
      go : (u k h : ℕ) → u < n → HaveCommonBlock w s u k h → aim k ≢ s → aim k ≡ w.head s
      go u k h u_within (Peers a b c) onward = ap aim (sym a) ∙ heads s within
      go u k h u_within (ToHead a b c) onward = ap aim (sym a) ∙ heads s within
      go u k h u_within (FromHead a b c) onward = absurd (onward (ap aim (sym a) ∙ heads u u_within ∙ b))

  -- where blocks aim alike, so do their nodes
  pub aims_alike : (aim other : ℕ → ℕ) (s a : ℕ) → s < n → a < n → ((k : ℕ) → k < n → other k ≡ aim k) → IsAimOf og.g w aim s a → IsAimOf og.g w other s a
  aims_alike aim other s a within a_within same is = record {
    aimed = λ k h common. same k (common_within s a k h within a_within common) ∙ is.aimed k h common;
    alone = λ u k h u_within apart common onward.
        let alike = same k (common_within s u k h within u_within common) in
        alike ∙ is.alone u k h u_within apart common (λ back. onward (alike ∙ back));
  }

  module _ (t : ℕ) (t_within : t < n) (aim : ℕ → ℕ) (marks : List Bool) (aims : AreWayAims og.g og.root w t aim marks) where
    -- a block that s heads, and that aims at another node, aims at one on the way, and s is its head
    under_head : (s u : ℕ) → u < n → w.head u ≡ s → aim (w.block u) ≢ s
        → Climbs og.root w t (aim (w.block u)) × (aim (w.block u) ≢ og.root) × (w.head (aim (w.block u)) ≡ s)
    under_head s u u_within head onward = elim (aims.off u u_within) [
      | inl home ↦ absurd (onward (home ∙ head))
      | inr it ↦
          (it.climbs, it.not_root, og.ordered.heads.one_head (aim (w.block u)) u (climb_low og t (aim (w.block u)) t_within it.climbs).0 u_within it.in_block ∙ head)
    ]

    -- the head of a node on the way, if it is not the root, is what its own block aims at
    above_aim : (s a : ℕ) → Climbs og.root w t a → a ≢ og.root → w.head a ≡ s → s ≢ og.root → aim (w.block s) ≡ s
    above_aim s a to_a a_other head other = aims.on s (subst (λ (v : ℕ). Climbs og.root w t v) head (climb_on og.root w t a to_a a_other)) other

    -- a node other than the root at which its own block aims is on the way
    pub aim_on_way : (a : ℕ) → a < n → a ≢ og.root → aim (w.block a) ≡ a → Climbs og.root w t a
    aim_on_way a a_within a_other is = elim (aims.off a a_within) [
      | inl home ↦ absurd (omega (arith, og.ordered.heads.lower a a_within a_other, ap w.order (sym home ∙ is)))
      | inr it ↦ subst (λ (v : ℕ). Climbs og.root w t v) is it.climbs
    ]

    -- s aims at a node on the way with which it has a block in common, and which is not its head; and that block is marked
    module _ (s a : ℕ) (two : s ≢ a) (to_a : Climbs og.root w t a) (a_other : a ≢ og.root) (away : w.head s ≢ a) where
      pub way_marked : (k h : ℕ) → HaveCommonBlockOfMoreLinks og.g w s a k h → slice_get marks k ≡ Some true
      way_marked k h share =
          let k_is = own_block s a k h share.common away in
          ap (λ (b : ℕ). slice_get marks b) k_is ∙ aims.marked a to_a a_other (subst (λ (b : ℕ). HasMoreLinks og.g w b) k_is share.more)

      pub way_aim : (k h : ℕ) → HaveCommonBlock w s a k h → IsAimOf og.g w aim s a
      way_aim k h common = record {
        aimed = λ j i shared. ap aim (own_block s a j i shared away) ∙ aims.on a to_a a_other;
        alone = λ u j i u_within apart shared onward. go k h u j i common u_within apart shared onward;
      }
        where
          a_within : a < n
          a_within = (climb_low og t a t_within to_a).0

          headed : (u j i : ℕ) → w.head a ≡ s → u < n → s ≢ u → HaveCommonBlock w s u j i → j ≡ w.block s → aim j ≡ s
          headed u j i head u_within apart shared same = elim (cases_eq s og.root) [
            | inl at_root ↦ absurd (root_heads s u j i at_root u_within apart shared same)
            | inr other ↦ ap aim same ∙ above_aim s a to_a a_other head other
          ]

          go : (k h u j i : ℕ) → HaveCommonBlock w s a k h → u < n → s ≢ u → HaveCommonBlock w s u j i → aim j ≢ s → aim j ≡ a
          go k h u j i (ToHead x y z) u_within apart shared onward = absurd (away y)
          go k h u j i (Peers x y z) u_within apart (Peers p q r) onward = ap aim (sym p ∙ x ∙ sym y) ∙ aims.on a to_a a_other
          go k h u j i (Peers x y z) u_within apart (ToHead p q r) onward = ap aim (sym p ∙ x ∙ sym y) ∙ aims.on a to_a a_other
          go k h u j i (Peers x y z) u_within apart (FromHead p q r) onward =
              let it = under_head s u u_within q (λ back. onward (ap aim (sym p) ∙ back)) in
              let other : s ≢ og.root = λ at_root. a_other (root_of_block a a_within (y ∙ sym x ∙ ap w.block at_root)) in
              absurd (two (sym (above_aim s (aim (w.block u)) it.0 it.1 it.2 other) ∙ ap aim (x ∙ sym y) ∙ aims.on a to_a a_other))
          go k h u j i (FromHead x y z) u_within apart (Peers p q r) onward = absurd (onward (headed u j i y u_within apart (Peers p q r) (sym p)))
          go k h u j i (FromHead x y z) u_within apart (ToHead p q r) onward = absurd (onward (headed u j i y u_within apart (ToHead p q r) (sym p)))
          go k h u j i (FromHead x y z) u_within apart (FromHead p q r) onward =
              let it = under_head s u u_within q (λ back. onward (ap aim (sym p) ∙ back)) in
              ap aim (sym p) ∙ one_under t (aim (w.block u)) a t_within it.0 to_a it.1 a_other (it.2 ∙ sym y)

  -- where s does not aim at its head, it aims at a node on the way
  pub row_aim_on_way : (t : ℕ) (below : List (Option ℕ)) → AreBelow og.g og.root w t below → (s a : ℕ) → IsRowAim w below s a → w.head s ≢ a
      → Climbs og.root w t a × (a ≢ og.root)
  row_aim_on_way t below are s a (Under at) away = let it = are.is_below s a at in (it.0, it.1)
  row_aim_on_way t below are s a (Beside none at peers) away = let it = are.is_below (w.head s) a at in (it.0, it.1)
  row_aim_on_way t below are s a (AtHome none no_peer home) away = absurd (away (sym home))

  module _ (t : ℕ) (t_within : t < n) (below : List (Option ℕ)) (are : AreBelow og.g og.root w t below) (aim : ℕ → ℕ)
      (marks : List Bool) (aims : AreWayAims og.g og.root w t aim marks) where
    -- a node that has none below it aims at what its block does
    pub block_aim : (s : ℕ) → s < n → slice_get below s ≡ Some None → IsRowAim w below s (aim (w.block s))
    block_aim s within none = elim (aims.off s within) [
      | inl home ↦
          AtHome none (λ c at same.
          let it = are.is_below (w.head s) c at in
          let c_is : w.head s ≡ c = sym home ∙ ap aim (sym same) ∙ aims.on c it.0 it.1 in
          omega (arith, og.ordered.heads.lower c (climb_low og t c t_within it.0).0 it.1, ap w.order (it.2 ∙ c_is))) home
      | inr it ↦
          let head = og.ordered.heads.one_head (aim (w.block s)) s (climb_low og t (aim (w.block s)) t_within it.climbs).0 within it.in_block in
          Beside none (ap (λ (v : ℕ). slice_get below v) (sym head) ∙ are.all (aim (w.block s)) it.climbs it.not_root) it.in_block
    ]
