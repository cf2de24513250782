-- Each node of the graph is in the whole order.
use Rattle.std.proofs.Common.{◌≡◌, ◌<◌, ◌==◌, ℕ, zero, suc, List, Some, count_by, length, slice_get, inl, inr, subst, sym, arith}
use Rattle.std.specs.Prelude.{Contains}
use Rattle.std.proofs.lemmas.Bool.{cases_eq}
use Rattle.mrt_graph.specs.GadagLists.{GadagLists}
use Rattle.mrt_graph.specs.Topology.{Topology}
use Rattle.mrt_graph.proofs.FewNumbers.{tally_once}
use Rattle.mrt_graph.proofs.ListPlaces.{contains_at, place_of}
use Rattle.mrt_graph.proofs.Members.{listed_or_not}
use Rattle.mrt_graph.proofs.Tallies.{count_is_tally}
use Rattle.lowpoint_dfs.proofs.WholeTree.{leads_within}
use Rattle.link_direction.specs.GadagOrder.{IsWholeOrder}
use Rattle.link_direction.proofs.FromEarsFacts.{AreGadagFacts}
use Rattle.link_direction.proofs.OrderSound.{IsSound, order_sound}

pub whole_sound : (g : Topology) (root : ℕ) (gadag : GadagLists) (order : List ℕ) → AreGadagFacts g root gadag → IsWholeOrder g root gadag.marks order
    → IsSound g root gadag.marks order
whole_sound g root gadag order facts whole = order_sound g root gadag.marks order facts.kept facts.root_within facts.none_into_root whole.ordered

-- the nodes up to a place of the ear order get ready in their turn
up_to : (left : ℕ) (g : Topology) (root : ℕ) (gadag : GadagLists) (order : List ℕ) (v k : ℕ) → AreGadagFacts g root gadag
    → IsWholeOrder g root gadag.marks order → v < length g.ids → slice_get gadag.order k ≡ Some v → k < left → Contains order v
up_to zero g root gadag order v k facts whole within at few = absurd (omega (arith, few))
up_to (suc left) g root gadag order v k facts whole within at few = elim (listed_or_not order v) [
  | inl listed ↦ listed
  | inr outside ↦ elim (cases_eq v root) [
    | inl same ↦ subst (λ (w : ℕ). Contains order w) (sym same) (contains_at order 0 root (whole_sound g root gadag order facts whole).first)
    | inr other ↦
        let into = facts.into v within other in
        absurd (whole.ended v (record {
          outside = outside;
          entered = (into.link, into.from, into.counted);
          from_list = λ e u counted.
              let u_within = (leads_within g e u v facts.kept counted.to).0 in
              let place = place_of gadag.order u (facts.listed u u_within) in
              up_to left g root gadag order u place.0 facts whole u_within place.1 (omega (arith, facts.forward e u v place.0 k counted place.1 at, few));
        }))
  ]
]

pub each_in_order : (g : Topology) (root : ℕ) (gadag : GadagLists) (order : List ℕ) (v : ℕ) → AreGadagFacts g root gadag
    → IsWholeOrder g root gadag.marks order → v < length g.ids → Contains order v
each_in_order g root gadag order v facts whole within =
    let place = place_of gadag.order v (facts.listed v within) in
    up_to (suc place.0) g root gadag order v place.0 facts whole within place.1 (omega arith)

pub each_once : (g : Topology) (root : ℕ) (gadag : GadagLists) (order : List ℕ) (v : ℕ) → AreGadagFacts g root gadag
    → IsWholeOrder g root gadag.marks order → v < length g.ids → count_by (λ node. node == v) order ≡ 1
each_once g root gadag order v facts whole within =
    let once = (whole_sound g root gadag order facts whole).once in
    omega (arith, count_is_tally (λ node. node == v) order, tally_once order v (each_in_order g root gadag order v facts whole within) (λ j k at_j at_k. once j k v at_j at_k))
