-- What a table's line is made from.
use Rattle.std.specs.Prelude.{◌≡◌, ℕ, List, Option, Some, slice_get}
use Rattle.area_graph.specs.Parts.{AreaParts}
use Rattle.mrt_graph.specs.declared.node_id.NodeId.{NodeId}
use Rattle.mrt_graph.specs.Rows.{Rows}
use Rattle.mrt_graph.specs.Topology.{Topology}
use Rattle.primary_alt.specs.declared.shortest.Primary.{Primary}
use Rattle.primary_alt.specs.Primaries.{IsPrimary}

-- the area; the island, with the island link that each bond of the area is, if it is one; the island's rows; and the
-- router, by its number in the island
pub record LineParts : Type 0 where
  pub area : AreaParts
  pub island : Topology
  pub link_of : List (Option ℕ)
  pub rows : Rows
  pub source : ℕ

-- these parts
abbrev pub line_parts : AreaParts → Topology → List (Option ℕ) → Rows → ℕ → LineParts
line_parts area island link_of rows source = record {
  area = area;
  island = island;
  link_of = link_of;
  rows = rows;
  source = source;
}

-- the two numbers are of one node: of the area, and of the island
pub record IsSpotOf (area : AreaParts) (island : Topology) (spot n : ℕ) : Type 0 where
  pub id : NodeId
  pub in_area : slice_get area.ids spot ≡ Some id
  pub in_island : slice_get island.ids n ≡ Some id

-- the primary of a node of the island for another one
pub record IsPrimaryOf (area : AreaParts) (island : Topology) (source to : ℕ) (primary : Primary) : Type 0 where
  pub spot : ℕ
  pub spot_is : IsSpotOf area island spot source
  pub target : ℕ
  pub target_is : IsSpotOf area island target to
  pub is : IsPrimary area spot target (Some primary)
