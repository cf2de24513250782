-- In a block with a closing link, a link leads up from each node, and one to each node.
use Rattle.std.proofs.Common.{◌≡◌, ◌≢◌, ◌⊎◌, ◌<◌, ◌≤◌, ◌+◌, ◌∙◌, ℕ, zero, suc, Some, length, inl, inr, refl, sym, ap, subst, arith}
use Rattle.std.proofs.lemmas.Bool.{cases_eq}
use Rattle.mrt_graph.specs.declared.cert.Role.TheVariants.{Closing}
use Rattle.mrt_graph.specs.Leads.{leads}
use Rattle.mrt_graph.specs.Topology.{Topology}
use Rattle.mrt_graph.proofs.Hops.{lead_back, same_ends}
use Rattle.link_direction.proofs.LinkNodes.{leads_within, link_within}
use Rattle.link_direction.specs.Directions.{Directions}
use Rattle.link_direction.proofs.ClosedBlocks.{IsClosed, IsOrdered, closing_is, closing_leads, head_lower, leads_inside, member_not_head}

-- a link of block k, directed from u to v
pub record IsDirectedLink (g : Topology) (w : Directions) (k e u v : ℕ) : Type 0 where
  pub onward : leads g.links e u ≡ Some v
  pub in_block : w.lies_in e ≡ k
  pub away : w.tail e ≡ u

-- a link of the block that is not closing is directed to the greater order
directed_up : (g : Topology) (root : ℕ) (w : Directions) (k e u v : ℕ) → IsOrdered g root w → leads g.links e u ≡ Some v → w.lies_in e ≡ k → w.role e ≢ Closing
    → w.order u < w.order v → IsDirectedLink g w k e u v
directed_up g root w k e u v is onward in_block plain less =
    let to = is.ordered.links.directed e (link_within g e u v is.kept onward) in
    elim (same_ends g.links e u v (w.tail e) to.0 onward to.1) [
      | inl at_u ↦ record { onward = onward; in_block = in_block; away = at_u }
      | inr at_v ↦ absurd (omega (arith, less, is.ordered.links.forward e v u (lead_back g.links e u v onward) at_v plain))
    ]

-- the closing link touches the greatest node and the head alone
closing_touches : (g : Topology) (root : ℕ) (w : Directions) (k h e u v : ℕ) (closed : IsClosed g root w k h) → IsOrdered g root w → leads g.links e u ≡ Some v → w.lies_in e ≡ k
    → w.role e ≡ Closing → (u ≡ closed.closing.greatest) ⊎ (u ≡ h)
closing_touches g root w k h e u v closed is onward in_block closing =
    let same = closing_is g root w k h e closed (link_within g e u v is.kept onward) in_block closing in
    same_ends g.links e closed.closing.greatest h u v (closing_leads g root w k h e closed same) onward

-- from each node of the block a link leads up: to a node of greater order, or to the head
pub record IsOut (g : Topology) (w : Directions) (k h m : ℕ) : Type 0 where
  pub link : ℕ
  pub to : ℕ
  pub directed : IsDirectedLink g w k link m to
  pub onto : (to ≡ h) ⊎ ((w.block to ≡ k) × (w.order m < w.order to))

-- to each node of the block a link leads up: from a node of lower order, or from the head
pub record IsInto (g : Topology) (w : Directions) (k h m : ℕ) : Type 0 where
  pub link : ℕ
  pub from : ℕ
  pub directed : IsDirectedLink g w k link from m
  pub origin : (from ≡ h) ⊎ ((w.block from ≡ k) × (w.order from < w.order m))

-- from a node that is not the greatest, over a link that is not closing
pub left_inside : (g : Topology) (root : ℕ) (w : Directions) (k h m : ℕ) (closed : IsClosed g root w k h) → IsOrdered g root w → m < length g.ids → w.block m ≡ k
    → m ≢ closed.closing.greatest → (to : ℕ) × (link : ℕ) × (IsDirectedLink g w k link m to) × (w.block to ≡ k) × (w.order m < w.order to)
left_inside g root w k h m closed is within inside other =
    let it = closed.closing.left m within (inside ∙ sym closed.in_block) other in
    let in_block : w.lies_in it.link ≡ k = it.over.in_block ∙ inside in
    let not_head = member_not_head g root w k h m is closed within inside in
    let plain : w.role it.link ≢ Closing = λ closing. elim (closing_touches g root w k h it.link m it.to closed is it.over.leads_on in_block closing) [
      | inl top ↦ other top
      | inr head ↦ not_head head
    ] in
    elim (leads_inside g root w k h it.link m it.to is closed it.over.leads_on in_block) [
      | inl member ↦ (it.to, it.link, directed_up g root w k it.link m it.to is it.over.leads_on in_block plain it.greater, member, it.greater)
      | inr head ↦ absurd (omega (arith, head_lower g root w k h m is closed within inside, it.greater, ap w.order head))
    ]

pub out_of : (g : Topology) (root : ℕ) (w : Directions) (k h m : ℕ) → IsOrdered g root w → IsClosed g root w k h → m < length g.ids → w.block m ≡ k → IsOut g w k h m
out_of g root w k h m is closed within inside = elim (cases_eq m closed.closing.greatest) [
  | inl top ↦ record {
    link = closed.closing.link;
    to = h;
    directed = record {
      onward = subst (λ (y : ℕ). leads g.links closed.closing.link y ≡ Some h) (sym top) (closing_leads g root w k h closed.closing.link closed refl);
      in_block = closed.closing.over.in_block ∙ closed.in_block;
      away = closed.closing.away ∙ sym top;
    };
    onto = inl refl;
  }
  | inr other ↦
      let it = left_inside g root w k h m closed is within inside other in
      record { link = it.1; to = it.0; directed = it.2; onto = inr (it.3, it.4) }
]

-- over a link that is not closing, from a node of lower order
entered_by : (g : Topology) (root : ℕ) (w : Directions) (k h e u v : ℕ) → IsOrdered g root w → IsClosed g root w k h → leads g.links e u ≡ Some v → w.lies_in e ≡ k
    → w.role e ≢ Closing → w.order u < w.order v → IsInto g w k h v
entered_by g root w k h e u v is closed onward in_block plain less = record {
  link = e;
  from = u;
  directed = directed_up g root w k e u v is onward in_block plain less;
  origin = elim (leads_inside g root w k h e v u is closed (lead_back g.links e u v onward) in_block) [
    | inl member ↦ inr (member, less)
    | inr head ↦ inl head
  ];
}

-- going up from any node of the block one comes to the greatest, over a link that is not closing
top_entered : (g : Topology) (root : ℕ) (w : Directions) (k h : ℕ) (closed : IsClosed g root w k h) → IsOrdered g root w → (fuel m : ℕ) → m < length g.ids → w.block m ≡ k
    → m ≢ closed.closing.greatest → length g.ids ≤ w.order m + fuel → IsInto g w k h closed.closing.greatest
top_entered g root w k h closed is zero m within inside other far =
    let it = left_inside g root w k h m closed is within inside other in
    let to_within = (leads_within g it.1 m it.0 is.kept it.2.onward).1 in
    absurd (omega (arith, far, it.4, is.ordered.orders.to_n it.0 to_within))
top_entered g root w k h closed is (suc fuel) m within inside other far =
    let it = left_inside g root w k h m closed is within inside other in
    let to_within = (leads_within g it.1 m it.0 is.kept it.2.onward).1 in
    elim (cases_eq it.0 closed.closing.greatest) [
      | inl top ↦ subst (λ (y : ℕ). IsInto g w k h y) top (record { link = it.1; from = m; directed = it.2; origin = inr (inside, it.4) })
      | inr still ↦ top_entered g root w k h closed is fuel it.0 to_within it.3 still (omega (arith, far, it.4))
    ]

-- the greatest node is entered by another link than the closing one
pub top_into : (g : Topology) (root : ℕ) (w : Directions) (k h : ℕ) (closed : IsClosed g root w k h) → IsOrdered g root w → IsInto g w k h closed.closing.greatest
top_into g root w k h closed is =
    let e = closed.closing.another in
    let u = w.tail e in
    let to = is.ordered.links.directed e closed.closing.another_within in
    let in_block : w.lies_in e ≡ k = closed.closing.another_in_block ∙ closed.in_block in
    let plain : w.role e ≢ Closing = λ closing. closed.closing.another_link (closing_is g root w k h e closed closed.closing.another_within in_block closing) in
    let less : w.order u < w.order to.0 = is.ordered.links.forward e u to.0 to.1 refl plain in
    let within = leads_within g e u to.0 is.kept to.1 in
    elim (leads_inside g root w k h e u to.0 is closed to.1 in_block) [
      | inl member ↦ elim (cases_eq to.0 closed.closing.greatest) [
        | inl top ↦ subst (λ (y : ℕ). IsInto g w k h y) top (entered_by g root w k h e u to.0 is closed to.1 in_block plain less)
        | inr other ↦ top_entered g root w k h closed is (length g.ids) to.0 within.1 member other (omega arith)
      ]
      | inr head ↦ elim (leads_inside g root w k h e to.0 u is closed (lead_back g.links e u to.0 to.1) in_block) [
        | inl member ↦ absurd (omega (arith, head_lower g root w k h u is closed within.0 member, less, ap w.order head))
        | inr also ↦ absurd (omega (arith, less, ap w.order head, ap w.order also))
      ]
    ]

pub into_of : (g : Topology) (root : ℕ) (w : Directions) (k h m : ℕ) → IsOrdered g root w → IsClosed g root w k h → m < length g.ids → w.block m ≡ k → IsInto g w k h m
into_of g root w k h m is closed within inside = elim (cases_eq m closed.closing.greatest) [
  | inl top ↦ subst (λ (y : ℕ). IsInto g w k h y) (sym top) (top_into g root w k h closed is)
  | inr other ↦
      let it = closed.closing.entered m within (inside ∙ sym closed.in_block) in
      let in_block : w.lies_in it.link ≡ k = it.over.in_block ∙ inside in
      let plain : w.role it.link ≢ Closing = λ closing.
      elim (closing_touches g root w k h it.link m it.from closed is (lead_back g.links it.link it.from m it.over.leads_on) in_block closing) [
        | inl top ↦ other top
        | inr head ↦ member_not_head g root w k h m is closed within inside head
      ] in
      entered_by g root w k h it.link it.from m is closed it.over.leads_on in_block plain it.lower
]
