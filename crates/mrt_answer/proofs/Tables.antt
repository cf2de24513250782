-- The router of a table, and the root of its island.
use Rattle.std.proofs.Common.{◌≡◌, ◌∙◌, ℕ, List, [], Option, Some, slice_get, refl, sym, ap, subst}
use Rattle.std.specs.Prelude.{Contains}
use Rattle.std.specs.Option.{option_map}
use Rattle.std.proofs.lemmas.Option.{same_Some}
use Rattle.mrt_graph.specs.NodeIds.{router}
use Rattle.area_graph.specs.Parts.{AreaParts}
use Rattle.mrt_graph.specs.declared.node_id.Kind.{Kind}
use Rattle.mrt_graph.specs.declared.node_id.Kind.TheVariants as kinds
use Rattle.mrt_graph.specs.declared.node_id.NodeId.{NodeId}
use Rattle.mrt_graph.specs.GraphInvariant.{IsNetwork}
use Rattle.mrt_graph.specs.Topology.{Topology}
use Rattle.mrt_graph.proofs.ListPlaces.{contains_at}
use Rattle.mrt_island.specs.IslandOf.{IsIsland}
use Rattle.mrt_island.specs.Numbering.{ids_of, number_inside}
use Rattle.mrt_island.specs.Policy.{Policy}
use Rattle.mrt_island.proofs.Counting.{flagged_at}

-- a router is in its own island
pub in_own_island : (policy : Policy) (area : AreaParts) (number : ℕ) (graph : Topology) (root : ℕ)
    (link_of : List (Option ℕ)) → IsIsland policy area number graph root link_of → Contains graph.ids (router number)
in_own_island policy area number graph root link_of island =
    let start = island.those.start in
    subst (λ (ids : List NodeId). Contains ids (router number)) (sym island.made.same_ids)
    (contains_at (ids_of area island.inside) (number_inside island.inside start) (router number)
    (flagged_at island.inside area.ids start (router number) island.those.there ((island.those.those start).1 ([], refl))))

two_kinds : (k : Kind) → k ≡ kinds.Router → k ≡ kinds.Network → ⊥
two_kinds k one other = let same : ◌≡◌ {A = Kind} kinds.Router kinds.Network = sym one ∙ other in cc

-- what is a router is no network
pub not_network : (ids : List NodeId) (place number : ℕ) → slice_get ids place ≡ Some (router number) → ¬ IsNetwork ids place
not_network ids place number at = λ network.
    two_kinds kinds.Router refl
    (same_Some kinds.Router kinds.Network (sym (ap (option_map (λ (id : NodeId). id.kind)) at) ∙ network))

-- the root of an island is a router
pub root_is_router : (policy : Policy) (area : AreaParts) (number : ℕ) (graph : Topology) (root : ℕ)
    (link_of : List (Option ℕ)) → IsIsland policy area number graph root link_of → ¬ IsNetwork graph.ids root
root_is_router policy area number graph root link_of island = λ network.
    let at : slice_get graph.ids root ≡ Some island.rooted.id =
    subst (λ (ids : List NodeId). slice_get ids root ≡ Some island.rooted.id) (sym island.made.same_ids) island.rooted.there in
    two_kinds island.rooted.id.kind island.rooted.router
    (same_Some island.rooted.id.kind kinds.Network (sym (ap (option_map (λ (id : NodeId). id.kind)) at) ∙ network))
