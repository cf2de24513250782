-- Nodes of one block and its head.
use Rattle.std.proofs.Common.{◌≡◌, ◌≢◌, ◌∙◌, ◌<◌, ℕ, refl, sym, ap, inl, inr, arith}
use Rattle.std.proofs.lemmas.Bool.{cases_eq}
use Rattle.mrt_graph.proofs.Blocks.{Words, Common, Peers, ToHead, FromHead, Related, InOne, Under, Over, Member, At, Blocks}

-- s and t have a block in common, and m is a member of it
pub record Pair (w : Words) (s t : ℕ) : Type 0 where
  pub m : ℕ
  pub member : Member w m
  pub source : At w m s
  pub target : At w m t

module _ (w : Words) (b : Blocks w) where
  -- a node that is its own head is the root
  own_head : (u : ℕ) → u < w.count → w.head u ≡ u → u ≡ w.root
  own_head u within own = elim (cases_eq u w.root) [
    | inl root ↦ root
    | inr other ↦ absurd (omega (arith, b.head_lower u (record { within = within; not_root = other }), ap w.order own))
  ]

  -- a node of the root's block is the root
  own_block : (u : ℕ) → u < w.count → w.block u ≡ w.root → u ≡ w.root
  own_block u within at_root = elim (cases_eq u w.root) [
    | inl root ↦ root
    | inr other ↦ absurd (b.not_roots u (record { within = within; not_root = other }) at_root)
  ]

  -- two nodes are not each other's heads
  pub no_cycle : (u v : ℕ) → u < w.count → v < w.count → u ≢ v → w.head u ≡ v → w.head v ≡ u → ⊥
  no_cycle u v u_within v_within differ to from = elim (cases_eq u w.root) [
    | inl root ↦ differ (root ∙ sym b.root_head ∙ ap w.head (sym root) ∙ to)
    | inr u_other ↦ elim (cases_eq v w.root) [
      | inl root ↦ differ (sym from ∙ ap w.head root ∙ b.root_head ∙ sym root)
      | inr v_other ↦
          let up = b.head_lower u (record { within = u_within; not_root = u_other }) in
          let down = b.head_lower v (record { within = v_within; not_root = v_other }) in
          omega (arith, up, down, ap w.order to, ap w.order from)
    ]
  ]

  -- a node is not of its head's block
  pub head_outside : (u v : ℕ) → u < w.count → v < w.count → u ≢ v → w.block u ≡ w.block v → w.head u ≡ v → ⊥
  head_outside u v u_within v_within differ one up =
      let root = own_head v v_within (sym (b.one_head u v u_within v_within one) ∙ up) in
      differ (own_block u u_within (one ∙ ap w.block root ∙ b.root_block) ∙ sym root)

  pub at_within : (m x : ℕ) → Member w m → At w m x → x < w.count
  at_within m x member (At.Inner within one) = within
  at_within m x member (At.Top top) = rw top (b.head_within m member.within)

  -- they are related
  pub at_related : (m x y : ℕ) → Member w m → At w m x → At w m y → x ≢ y → Related w x y
  at_related m x y member (At.Inner x_within x_one) (At.Inner y_within y_one) differ = InOne (x_one ∙ sym y_one)
  at_related m x y member (At.Inner x_within x_one) (At.Top y_top) differ = Under (b.one_head x m x_within member.within x_one ∙ sym y_top)
  at_related m x y member (At.Top x_top) (At.Inner y_within y_one) differ = Over (b.one_head y m y_within member.within y_one ∙ sym x_top)
  at_related m x y member (At.Top x_top) (At.Top y_top) differ = absurd (differ (x_top ∙ sym y_top))

  -- their common block is m's
  pub at_common : (m x y k : ℕ) → Member w m → At w m x → At w m y → x ≢ y → Common w x y k → k ≡ w.block m
  at_common m x y k member (At.Inner x_within x_one) y_at differ (Peers one is) = is ∙ x_one
  at_common m x y k member (At.Inner x_within x_one) y_at differ (ToHead up is) = is ∙ x_one
  at_common m x y k member (At.Inner x_within x_one) (At.Inner y_within y_one) differ (FromHead down is) = is ∙ y_one
  at_common m x y k member (At.Inner x_within x_one) (At.Top y_top) differ (FromHead down is) =
      absurd (no_cycle x y x_within (at_within m y member (At.Top y_top)) differ (b.one_head x m x_within member.within x_one ∙ sym y_top) down)
  at_common m x y k member (At.Top x_top) (At.Inner y_within y_one) differ (Peers one is) = is ∙ one ∙ y_one
  at_common m x y k member (At.Top x_top) (At.Inner y_within y_one) differ (ToHead up is) =
      absurd (no_cycle x y (at_within m x member (At.Top x_top)) y_within differ up (b.one_head y m y_within member.within y_one ∙ sym x_top))
  at_common m x y k member (At.Top x_top) (At.Inner y_within y_one) differ (FromHead down is) = is ∙ y_one
  at_common m x y k member (At.Top x_top) (At.Top y_top) differ common = absurd (differ (x_top ∙ sym y_top))

  -- what has m's block in common with one of them is one of them
  pub at_stays : (m x y : ℕ) → Member w m → x < w.count → y < w.count → Common w x y (w.block m) → At w m y
  at_stays m x y member x_within y_within (Peers one is) = At.Inner y_within (sym one ∙ sym is)
  at_stays m x y member x_within y_within (ToHead up is) = At.Top (sym up ∙ b.one_head x m x_within member.within (sym is))
  at_stays m x y member x_within y_within (FromHead down is) = At.Inner y_within (sym is)

  -- two related nodes have such a block
  pub paired : (s t : ℕ) → s < w.count → t < w.count → s ≢ t → Related w s t → Pair w s t
  paired s t s_within t_within differ (InOne one) =
      let not_root : s ≢ w.root = λ root. differ (root ∙ sym (own_block t t_within (sym one ∙ ap w.block root ∙ b.root_block))) in
      record { m = s; member = record { within = s_within; not_root = not_root }; source = At.Inner s_within refl; target = At.Inner t_within (sym one) }
  paired s t s_within t_within differ (Under up) =
      let not_root : s ≢ w.root = λ root. differ (root ∙ sym b.root_head ∙ ap w.head (sym root) ∙ up) in
      record { m = s; member = record { within = s_within; not_root = not_root }; source = At.Inner s_within refl; target = At.Top (sym up) }
  paired s t s_within t_within differ (Over down) =
      let not_root : t ≢ w.root = λ root. differ (sym down ∙ ap w.head root ∙ b.root_head ∙ sym root) in
      record { m = t; member = record { within = t_within; not_root = not_root }; source = At.Top (sym down); target = At.Inner t_within refl }
