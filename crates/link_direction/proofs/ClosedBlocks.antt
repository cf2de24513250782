-- Blocks with a closing link.
use Rattle.std.proofs.Common.{◌≡◌, ◌≢◌, ◌⊎◌, ◌<◌, ◌∙◌, ℕ, Some, length, inl, inr, refl, sym, ap, subst, arith}
use Rattle.std.proofs.lemmas.Bool.{cases_eq}
use Rattle.mrt_graph.specs.declared.cert.Role.{Role}
use Rattle.mrt_graph.specs.declared.cert.Role.TheVariants.{Closing, Plain, Sole}
use Rattle.mrt_graph.specs.GraphInvariant.{IsTopology}
use Rattle.mrt_graph.specs.Leads.{leads}
use Rattle.mrt_graph.specs.Topology.{Topology}
use Rattle.link_direction.proofs.LinkNodes.{leads_elsewhere, leads_within, link_within}
use Rattle.link_direction.specs.CommonBlock.{HaveCommonBlock, Peers, ToHead, FromHead}
use Rattle.link_direction.specs.Directions.{Directions}
use Rattle.link_direction.specs.OrderedGadag.{HasClosingLink, IsOrderedGadag}

-- a graph and the directions of a GADAG of it
pub record IsOrdered (g : Topology) (root : ℕ) (w : Directions) : Type 0 where
  pub kept : IsTopology g
  pub ordered : IsOrderedGadag g root w

-- block k has a closing link, and its head is h; m is one of its nodes
pub record IsClosed (g : Topology) (root : ℕ) (w : Directions) (k h : ℕ) : Type 0 where
  pub m : ℕ
  pub within : m < length g.ids
  pub not_root : m ≢ root
  pub in_block : w.block m ≡ k
  pub has_head : w.head m ≡ h
  pub closing : HasClosingLink g w m

-- a node of block k, which is not the root's
pub record IsInside (g : Topology) (root : ℕ) (w : Directions) (k : ℕ) : Type 0 where
  pub m : ℕ
  pub within : m < length g.ids
  pub not_root : m ≢ root
  pub in_block : w.block m ≡ k

-- of two linked nodes, one at least lies in the link's block and is not the root
pub inside_of_link : (g : Topology) (root : ℕ) (w : Directions) (e u v : ℕ) → IsOrdered g root w → leads g.links e u ≡ Some v → IsInside g root w (w.lies_in e)
inside_of_link g root w e u v is onward =
    let common = is.ordered.links.common e u v onward in go common.0 common.1
  where
    within : (u < length g.ids) × (v < length g.ids)
    within = leads_within g e u v is.kept onward

    apart : u ≢ v
    apart = leads_elsewhere g e u v is.kept onward

    go : (h : ℕ) → HaveCommonBlock w u v (w.lies_in e) h → IsInside g root w (w.lies_in e)
    go h (Peers at_u at_v head) = elim (cases_eq u root) [
      | inl same ↦ record { m = v; within = within.1; not_root = λ v_root. apart (same ∙ sym v_root); in_block = at_v }
      | inr other ↦ record { m = u; within = within.0; not_root = other; in_block = at_u }
    ]
    go h (ToHead at_u head is_head) =
        record { m = u; within = within.0; not_root = λ same. apart (same ∙ sym is.ordered.heads.root_head ∙ ap w.head (sym same) ∙ head); in_block = at_u }
    go h (FromHead at_v head is_head) =
        record { m = v; within = within.1; not_root = λ same. apart (sym head ∙ ap w.head same ∙ is.ordered.heads.root_head ∙ sym same); in_block = at_v }

-- a block of a link that is not sole has a closing link
pub closed_of_link : (g : Topology) (root : ℕ) (w : Directions) (e u v : ℕ) → IsOrdered g root w → leads g.links e u ≡ Some v → w.role e ≢ Sole
    → (h : ℕ) × IsClosed g root w (w.lies_in e) h
closed_of_link g root w e u v is onward not_sole =
    let it = inside_of_link g root w e u v is onward in
    elim (is.ordered.blocks it.m it.within it.not_root) [
      | inl one ↦
          let same : e ≡ one.link = one.no_other_link e (link_within g e u v is.kept onward) (sym it.in_block) in
          absurd (not_sole (ap w.role same ∙ one.sole))
      | inr closing ↦ (w.head it.m, record { m = it.m; within = it.within; not_root = it.not_root; in_block = it.in_block; has_head = refl; closing = closing })
    ]

-- nodes of such a block have its head, and are no roots
pub head_of_member : (g : Topology) (root : ℕ) (w : Directions) (k h x : ℕ) → IsOrdered g root w → IsClosed g root w k h → x < length g.ids → w.block x ≡ k → w.head x ≡ h
head_of_member g root w k h x is closed within in_block =
    is.ordered.heads.one_head x closed.m within closed.within (in_block ∙ sym closed.in_block) ∙ closed.has_head

pub member_not_root : (g : Topology) (root : ℕ) (w : Directions) (k h x : ℕ) → IsOrdered g root w → IsClosed g root w k h → w.block x ≡ k → x ≢ root
member_not_root g root w k h x is closed in_block same =
    is.ordered.heads.alone closed.m closed.within closed.not_root
    (closed.in_block ∙ sym in_block ∙ ap w.block same ∙ is.ordered.heads.root_block)

pub head_lower : (g : Topology) (root : ℕ) (w : Directions) (k h x : ℕ) → IsOrdered g root w → IsClosed g root w k h → x < length g.ids → w.block x ≡ k
    → w.order h < w.order x
head_lower g root w k h x is closed within in_block =
    subst (λ (y : ℕ). w.order y < w.order x) (head_of_member g root w k h x is closed within in_block)
    (is.ordered.heads.lower x within (member_not_root g root w k h x is closed in_block))

pub member_not_head : (g : Topology) (root : ℕ) (w : Directions) (k h x : ℕ) → IsOrdered g root w → IsClosed g root w k h → x < length g.ids → w.block x ≡ k → x ≢ h
member_not_head g root w k h x is closed within in_block same =
    omega (arith, head_lower g root w k h x is closed within in_block, ap w.order same)

pub head_within : (g : Topology) (root : ℕ) (w : Directions) (k h : ℕ) → IsOrdered g root w → IsClosed g root w k h → h < length g.ids
head_within g root w k h is closed =
    subst (λ (y : ℕ). y < length g.ids) closed.has_head (is.ordered.heads.head_within closed.m closed.within)

-- a link of the block leads to one of its nodes or to its head
pub leads_inside : (g : Topology) (root : ℕ) (w : Directions) (k h e u v : ℕ) → IsOrdered g root w → IsClosed g root w k h → leads g.links e u ≡ Some v → w.lies_in e ≡ k
    → (w.block v ≡ k) ⊎ (v ≡ h)
leads_inside g root w k h e u v is closed onward in_block =
    let common = is.ordered.links.common e u v onward in go common.0 common.1
  where
    within : (u < length g.ids) × (v < length g.ids)
    within = leads_within g e u v is.kept onward

    go : (top : ℕ) → HaveCommonBlock w u v (w.lies_in e) top → (w.block v ≡ k) ⊎ (v ≡ h)
    go top (Peers at_u at_v head) = inl (at_v ∙ in_block)
    go top (ToHead at_u head is_head) = inr (sym head ∙ head_of_member g root w k h u is closed within.0 (at_u ∙ in_block))
    go top (FromHead at_v head is_head) = inl (at_v ∙ in_block)

pub is_closing : (r : Role) → (r ≡ Closing) ⊎ (r ≢ Closing)
is_closing Closing = inl refl
is_closing Plain = inr (λ same. (cc))
is_closing Sole = inr (λ same. (cc))

-- the closing link of the block is the only one
pub closing_is : (g : Topology) (root : ℕ) (w : Directions) (k h e : ℕ) (closed : IsClosed g root w k h) → e < length g.links → w.lies_in e ≡ k → w.role e ≡ Closing
    → e ≡ closed.closing.link
closing_is g root w k h e closed within in_block closing = closed.closing.no_other e within (in_block ∙ sym closed.in_block) closing

-- and leads from the greatest node to the head
pub closing_tail : (g : Topology) (root : ℕ) (w : Directions) (k h e : ℕ) (closed : IsClosed g root w k h) → e ≡ closed.closing.link → w.tail e ≡ closed.closing.greatest
closing_tail g root w k h e closed same = ap w.tail same ∙ closed.closing.away

pub closing_leads : (g : Topology) (root : ℕ) (w : Directions) (k h e : ℕ) (closed : IsClosed g root w k h) → e ≡ closed.closing.link
    → leads g.links e closed.closing.greatest ≡ Some h
closing_leads g root w k h e closed same =
    subst (λ (i : ℕ). leads g.links i closed.closing.greatest ≡ Some h) (sym same)
    (closed.closing.over.leads_on ∙ ap (λ (y : ℕ). Some y) closed.has_head)
