-- The numbers of nodes.
use Rattle.std.proofs.Common.{◌≡◌, ◌↔◌, refl, ℕ, Option, Some, None, Contains, ap, length, slice_get, subst, sym}
use Rattle.std.specs.Prelude.{IfSome, IsNone}
use Rattle.std.specs.Option.{unwrap_or}
use Rattle.std.proofs.lemmas.Option.{get_or_from_slice_get, none-some, same_Some, slice_get_within}
use Rattle.mrt_graph.proofs.IdPlaces.{contained_by_number, place_of_one}
use Rattle.area_graph.specs.AreaInvariant.{IsArea}
use Rattle.mrt_graph.specs.NodeIds.{number_of}
use Rattle.area_graph.specs.Parts.{AreaParts}
use Rattle.fabric.specs.NamedEvents.{spot_of}
use Rattle.mrt_graph.specs.declared.node_id.NodeId.{NodeId}
use Rattle.mrt_graph.proofs.ListPlaces.{contains_at}
use Rattle.mrt_graph.proofs.NodeIds.{one_place}

-- a node that has the identifier
pub placed : (area : AreaParts) (s : ℕ) (id : NodeId) → IsArea area → slice_get area.ids s ≡ Some id → s ≡ spot_of area id
placed area s id kept there =
    sym (ap (λ (o : Option ℕ). unwrap_or o (length area.ids))
    (place_of_one area.ids s id kept.ids_ascend (slice_get_within area.ids s id there) (get_or_from_slice_get area.ids s id id there)))

-- where no node has it
not_placed : (area : AreaParts) (id : NodeId) (place : Option ℕ) → number_of area.ids id ≡ place → ¬ Contains area.ids id
    → length area.ids ≡ unwrap_or place (length area.ids)
not_placed area id None is none = refl
not_placed area id (Some s) is none = absurd (none (contained_by_number area.ids id s is))

pub missing : (area : AreaParts) (id : NodeId) → ¬ Contains area.ids id → length area.ids ≡ spot_of area id
missing area id none = not_placed area id (number_of area.ids id) refl none

-- what is found is the node that has the identifier
pub found_node : (area : AreaParts) (found : Option ℕ) (id : NodeId) → IsArea area → IfSome found (λ s. slice_get area.ids s ≡ Some id)
    → IsNone found ↔ (Contains area.ids id → ⊥) → (t : ℕ) → (found ≡ Some t) ↔ (slice_get area.ids t ≡ Some id)
found_node area None id kept there none t =
    (λ is. absurd (none-some t is), λ at. absurd (none.0 refl (contains_at area.ids t id at)))
found_node area (Some s) id kept there none t = (
  λ is. subst (λ (k : ℕ). slice_get area.ids k ≡ Some id) (same_Some s t is) there,
  λ at. ap (λ (k : ℕ). Some k) (one_place area.ids s t id kept.ids_ascend there at),
)
