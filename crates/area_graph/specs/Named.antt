-- The bond that a router and link data name.
use Rattle.std.specs.Prelude.{◌≡◌, ◌&&◌, ◌==◌, ℕ, Bool, Contains, Option, Some, slice_get}
use Rattle.std.specs.List.{find}
use Rattle.std.specs.Option.{option_map, option_map_or}
use Rattle.mrt_graph.specs.SameGraph.{same_id}
use Rattle.area_graph.specs.declared.area_types.Arc.{Arc}
use Rattle.mrt_graph.specs.NodeIds.{router}
use Rattle.area_graph.specs.Parts.{AreaParts}

-- whether an arc leaves that router and has that link data there
abbrev pub has_name : AreaParts → ℕ → ℕ → Arc → Bool
has_name area number link_data arc =
    option_map_or (same_id (router number)) (slice_get area.ids arc.tail) Bool.false && (arc.link_data == link_data)

-- the bond of the first arc that leaves that router with that link data
abbrev pub bond_named : AreaParts → ℕ → ℕ → Option ℕ
bond_named area number link_data = option_map (λ arc. arc.bond) (find (has_name area number link_data) area.arcs)

-- an arc of an area that leaves that router and has that link data there
pub record IsNamed (area : AreaParts) (number link_data : ℕ) (arc : Arc) : Type 0 where
  pub there : Contains area.arcs arc
  pub tail : slice_get area.ids arc.tail ≡ Some (router number)
  pub data_there : arc.link_data ≡ link_data
