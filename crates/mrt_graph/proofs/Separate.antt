-- The nodes whose chain meets a block are left and entered only over its links at its head.
use Rattle.std.proofs.Common.{◌≡◌, ◌⊎◌, ◌∙◌, ◌<◌, ◌≤◌, ℕ, List, [], ◌∷◌, Some, inl, inr, refl, sym, ap, subst, arith}
use Rattle.std.proofs.lemmas.Bool.{cases_eq}
use Rattle.mrt_graph.specs.Hop.{Hop}
use Rattle.mrt_graph.specs.Leads.{leads}
use Rattle.mrt_graph.proofs.Blocks.{Words, Blocks, Common, Peers, ToHead, FromHead, Member, Below, Here, Up}
use Rattle.mrt_graph.proofs.Hops.{lead_back}
use Rattle.mrt_graph.proofs.Members.{Has}
use Rattle.mrt_graph.proofs.Trails.{Trail, links_on, nodes_on}

-- a walk goes over a link of m's block, and meets the head of m
pub record Crosses (w : Words) (m s : ℕ) (hops : List Hop) : Type 0 where
  pub link : ℕ
  pub from : ℕ
  pub to : ℕ
  pub leads_on : leads w.links link from ≡ Some to
  pub on_walk : Has (links_on hops) link
  pub of_block : w.part link ≡ w.block m
  pub head_met : Has (nodes_on s hops) (w.head m)

module _ (w : Words) (b : Blocks w) where
  -- what shares a member's block is a member
  pub member_too : (a m : ℕ) → Member w m → a < w.count → w.block a ≡ w.block m → Member w a
  member_too a m member within same = record {
    within = within;
    not_root = λ root. b.not_roots m member (sym same ∙ ap w.block root ∙ b.root_block);
  }

  -- no head has a greater order
  pub head_order : (a : ℕ) → a < w.count → w.order (w.head a) ≤ w.order a
  head_order a within = elim (cases_eq a w.root) [
    | inl root ↦ let e : w.order (w.head a) ≡ w.order a = ap w.order (ap w.head root ∙ b.root_head ∙ sym root) in omega (arith, e)
    | inr other ↦ omega (arith, b.head_lower a (record { within = within; not_root = other }))
  ]

  -- from a node below the block of m a link leads to such a node, or lies in the block and leads to its head
  crossing : (e m u v : ℕ) → Member w m → leads w.links e u ≡ Some v → Below w m u → Below w m v ⊎ ((v ≡ w.head m) × (w.part e ≡ w.block m))
  crossing e m u v member there below = go (b.tied e u v there) below
    where
      go : Common w u v (w.part e) → Below w m u → Below w m v ⊎ ((v ≡ w.head m) × (w.part e ≡ w.block m))
      go (Peers same is) (Here _ in_block) = inl (Here v (sym same ∙ in_block))
      go (Peers same is) (Up _ up) = inl (Up v (subst (Below w m) (b.one_head u v (b.from_within e u v there) (b.to_within e u v there) same) up))
      go (ToHead head is) (Here _ in_block) = inr (sym head ∙ b.one_head u m (b.from_within e u v there) member.within in_block, is ∙ in_block)
      go (ToHead head is) (Up _ up) = inl (subst (Below w m) head up)
      go (FromHead head is) below' = inl (Up v (subst (Below w m) (sym head) below'))

  -- a walk from below the block of m to elsewhere crosses
  pub leaves : (m s t : ℕ) (hops : List Hop) → Member w m → Trail w.links s hops t → Below w m s → Crosses w m s hops ⊎ Below w m t
  leaves m s t [] member trail below = inr (subst (Below w m) trail below)
  leaves m s t (hop ∷ hops) member trail below = elim (crossing hop.link m s hop.to member trail.0 below) [
    | inl still ↦ elim (leaves m hop.to t hops member trail.1 still) [
      | inl later ↦ inl (record { link = later.link; from = later.from; to = later.to; leads_on = later.leads_on; on_walk = inr later.on_walk; of_block = later.of_block; head_met = inr later.head_met })
      | inr within ↦ inr within
    ]
    | inr out ↦ inl (record { link = hop.link; from = s; to = hop.to; leads_on = trail.0; on_walk = inl refl; of_block = out.1; head_met = inr (inl out.0) })
  ]

  -- and so does one from elsewhere to below it
  pub enters : (m s t : ℕ) (hops : List Hop) → Member w m → Trail w.links s hops t → Below w m t → Crosses w m s hops ⊎ Below w m s
  enters m s t [] member trail below = inr (subst (Below w m) (sym trail) below)
  enters m s t (hop ∷ hops) member trail below = elim (enters m hop.to t hops member trail.1 below) [
    | inl later ↦ inl (record { link = later.link; from = later.from; to = later.to; leads_on = later.leads_on; on_walk = inr later.on_walk; of_block = later.of_block; head_met = inr later.head_met })
    | inr still ↦ elim (crossing hop.link m hop.to s member (lead_back w.links hop.link s hop.to trail.0) still) [
      | inl within ↦ inr within
      | inr out ↦ inl (record { link = hop.link; from = s; to = hop.to; leads_on = trail.0; on_walk = inl refl; of_block = out.1; head_met = inl out.0 })
    ]
  ]

  -- nodes below a block have orders above that of its head
  pub below_above : (m y : ℕ) → Member w m → y < w.count → Below w m y → w.order (w.head m) < w.order y
  below_above m y member within (Here _ same) =
      let up = b.head_lower y (member_too y m member within same) in
      subst (λ (h : ℕ). w.order h < w.order y) (b.one_head y m within member.within same) up
  below_above m y member within (Up _ up) = omega (arith, below_above m (w.head y) member (b.head_within y within) up, head_order y within)

  -- the head is not below its block
  pub head_not_below : (m : ℕ) → Member w m → Below w m (w.head m) → ⊥
  head_not_below m member below = omega (arith, below_above m (w.head m) member (b.head_within m member.within) below)
