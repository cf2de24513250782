-- What routes answer.
use Rattle.std.proofs.Common.{◌≡◌, ◌≢◌, ◌<◌, ℕ, Option, Some, None, length, slice_get, sym, subst}
use Rattle.std.proofs.lemmas.Option.{same_Some, slice_get_within}
use Rattle.area_graph.specs.Parts.{AreaParts}
use Rattle.fabric.specs.FabricParts.{ArePartsKept, FabricParts, node_at}
use Rattle.fabric.specs.Handling.{IsUnreachable}
use Rattle.fabric.proofs.Islands.{node_of_id, node_outside}
use Rattle.mrt_graph.specs.GraphInvariant.{IsNetwork}
use Rattle.mrt_graph.specs.Topology.{Topology}
use Rattle.mrt_graph.specs.declared.node_id.NodeId.{NodeId}
use Rattle.mrt_graph.proofs.ListTests.{there}
use Rattle.primary_alt.specs.Primaries.{Direct, IsPrimary, Itself, NoWalk, Over}
use Rattle.primary_alt.specs.RouteLists.{HasColumn, RouteLists, primary_at}
use Rattle.primary_alt.specs.RoutesMade.{AreMade, IsNodeOf}
use Rattle.primary_alt.specs.declared.shortest.Primary.{Primary}
use Rattle.primary_alt.proofs.RouterFacts.{router_from}

module _ (parts : FabricParts) (are : ArePartsKept parts) (routes : RouteLists) (made : AreMade parts.area parts.island routes) where
  pub routed_node : (s : ℕ) (node : Option ℕ) → s < length parts.area.ids → slice_get routes.nodes s ≡ Some node → node ≡ node_at parts s
  routed_node s node within is = let id = there parts.area.ids s within in go node id.0 (made.nodes.same s id.0 node id.1 is) id.1
    where
      go : (o : Option ℕ) (id : NodeId) → IsNodeOf parts.island.ids id o → slice_get parts.area.ids s ≡ Some id → o ≡ node_at parts s
      go None id none at = sym (node_outside parts are s id at none)
      go (Some n) id here at = sym (node_of_id parts are s n id at here)

  pub routed_spot : (n s : ℕ) → n < length parts.island.ids → slice_get routes.spots n ≡ Some s → node_at parts s ≡ Some n
  routed_spot n s within is =
      let id = there parts.island.ids n within in node_of_id parts are s n id.0 (made.spots.same n s id.0 id.1 is) id.1

-- the primary that routes have
pub routed_primary : (area : AreaParts) (island : Topology) (routes : RouteLists) → AreMade area island routes → (x t : ℕ) → x < length area.ids → ¬ IsNetwork area.ids x → HasColumn routes t
    → (primary : Primary) → primary_at routes x t ≡ Some primary → IsPrimary area x t (Some primary)
routed_primary area island routes made x t within router served primary is =
    subst (λ (o : Option Primary). IsPrimary area x t o) is (made.primaries.routers x t (router_from area.ids x within router) served)

-- a primary's arcs are there
pub record AreThere (area : AreaParts) (primary : Primary) : Type 0 where
  pub first : primary.first < length area.arcs
  pub second : (k : ℕ) → primary.second ≡ Some k → k < length area.arcs

pub arcs_there : (area : AreaParts) (x t : ℕ) (primary : Primary) (entry : Option Primary) → entry ≡ Some primary → IsPrimary area x t entry → AreThere area primary
arcs_there area x t primary entry is (Itself same) = cc
arcs_there area x t primary entry is (NoWalk none) = cc
arcs_there area x t primary entry is (Direct n arc apart first direct) =
    let same : record { first = n; second = None; next = arc.to } ≡ primary = same_Some _ primary is in
    subst (λ (p : Primary). AreThere area p) same (record { first = slice_get_within area.arcs n arc first.there; second = λ k e. cc })
arcs_there area x t primary entry is (Over n k arc onward apart first over second) =
    let same : record { first = n; second = Some k; next = onward.to } ≡ primary = same_Some _ primary is in
    subst (λ (p : Primary). AreThere area p) same (record {
      first = slice_get_within area.arcs n arc first.there;
      second = λ j e. subst (λ (i : ℕ). i < length area.arcs) (same_Some k j e) (slice_get_within area.arcs k onward second.there);
    })

-- where there is no primary no walk leads
pub no_primary : (area : AreaParts) (x t : ℕ) (entry : Option Primary) → x ≢ t → entry ≡ None → IsPrimary area x t entry → IsUnreachable area x t
no_primary area x t entry apart is (Itself same) = absurd (apart same)
no_primary area x t entry apart is (NoWalk none) = none
no_primary area x t entry apart is (Direct n arc apart' first direct) = cc
no_primary area x t entry apart is (Over n k arc onward apart' first over second) = cc
