-- Two nodes have one block in common.
use Rattle.std.proofs.Common.{◌≡◌, ◌≢◌, ◌⊎◌, ◌<◌, ◌∙◌, ℕ, length, inl, inr, sym, ap, arith}
use Rattle.std.proofs.lemmas.Bool.{cases_eq}
use Rattle.mrt_graph.specs.Topology.{Topology}
use Rattle.link_direction.specs.CommonBlock.{HaveCommonBlock, Peers, ToHead, FromHead}
use Rattle.link_direction.specs.Directions.{Directions}
use Rattle.link_direction.proofs.ClosedBlocks.{IsOrdered}

-- a block of two nodes is that of the first one, or the first one is its head
pub data Side (w : Directions) (s t k h : ℕ) : Type 0 where
  Own : w.block s ≡ k → w.head s ≡ h → (w.block t ≡ k) ⊎ (w.head s ≡ t) → Side w s t k h
  Below : w.block t ≡ k → w.head t ≡ h → w.head t ≡ s → Side w s t k h

side_of : (w : Directions) (s t k h : ℕ) → HaveCommonBlock w s t k h → Side w s t k h
side_of w s t k h (Peers at_s at_t head) = Own at_s head (inl at_t)
side_of w s t k h (ToHead at_s head is_head) = Own at_s (head ∙ is_head) (inr head)
side_of w s t k h (FromHead at_t head is_head) = Below at_t (head ∙ is_head) head

-- a node's head is not the node, but for the root
pub head_apart : (g : Topology) (root : ℕ) (w : Directions) (x : ℕ) → IsOrdered g root w → x < length g.ids → w.head x ≡ x → x ≡ root
head_apart g root w x is within same = elim (cases_eq x root) [
  | inl at_root ↦ at_root
  | inr other ↦ absurd (omega (arith, is.ordered.heads.lower x within other, ap w.order same))
]

not_both_sides : (g : Topology) (root : ℕ) (w : Directions) (s t : ℕ) → IsOrdered g root w → s < length g.ids → t < length g.ids → s ≢ t
    → (w.block s ≡ w.block t) ⊎ (w.head s ≡ t) → w.head t ≡ s → ⊥
not_both_sides g root w s t is s_within t_within two near under = elim near [
  | inl peers ↦
      let own : s ≡ root = head_apart g root w s is s_within (is.ordered.heads.one_head s t s_within t_within peers ∙ under) in
      let t_block : w.block t ≡ root = sym peers ∙ ap w.block own ∙ is.ordered.heads.root_block in
      elim (cases_eq t root) [
        | inl at_root ↦ two (own ∙ sym at_root)
        | inr other ↦ is.ordered.heads.alone t t_within other t_block
      ]
  | inr over ↦ elim (cases_eq s root) [
    | inl at_root ↦ two (at_root ∙ sym is.ordered.heads.root_head ∙ ap w.head (sym at_root) ∙ over)
    | inr s_other ↦ elim (cases_eq t root) [
      | inl at_root ↦ two (sym under ∙ ap w.head at_root ∙ is.ordered.heads.root_head ∙ sym at_root)
      | inr t_other ↦
          omega (
            arith,
            is.ordered.heads.lower s s_within s_other,
            is.ordered.heads.lower t t_within t_other,
            ap w.order over,
            ap w.order under,
          )
    ]
  ]
]

-- two nodes have one block in common
pub one_block : (g : Topology) (root : ℕ) (w : Directions) (s t k h k' h' : ℕ) → IsOrdered g root w → s < length g.ids → t < length g.ids → s ≢ t
    → HaveCommonBlock w s t k h → HaveCommonBlock w s t k' h' → (k ≡ k') × (h ≡ h')
one_block g root w s t k h k' h' is s_within t_within two one other =
    go (side_of w s t k h one) (side_of w s t k' h' other)
  where
    near : (b : ℕ) → w.block s ≡ b → (w.block t ≡ b) ⊎ (w.head s ≡ t) → (w.block s ≡ w.block t) ⊎ (w.head s ≡ t)
    near b at_s other_side = elim other_side [ inl at_t ↦ inl (at_s ∙ sym at_t) | inr over ↦ inr over ]

    go : Side w s t k h → Side w s t k' h' → (k ≡ k') × (h ≡ h')
    go (Own at head far) (Own at' head' far') = (sym at ∙ at', sym head ∙ head')
    go (Below at head under) (Below at' head' under') = (sym at ∙ at', sym head ∙ head')
    go (Own at head far) (Below at' head' under') = absurd (not_both_sides g root w s t is s_within t_within two (near k at far) under')
    go (Below at head under) (Own at' head' far') = absurd (not_both_sides g root w s t is s_within t_within two (near k' at' far') under)
