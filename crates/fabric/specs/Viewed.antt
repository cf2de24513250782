-- What the code hands on, seen as the definitions see it.
use Rattle.area_graph.specs.Parts.{AreaParts}
use Rattle.fabric.specs.FabricParts.{FabricParts}
use Rattle.fabric.specs.FabricState.{FabricState}
use Rattle.mrt_graph.specs.Rows.{Rows}
use Rattle.mrt_graph.specs.Topology.{Topology}
use Rattle.primary_alt.specs.RouteLists.{RouteLists}

-- what a fabric was made with: the area, the island, that from which rows are read, and the routes
pub record FabricTables (R : Type 0) : Type 0 where
  pub area : AreaParts
  pub island : Topology
  pub rows : R
  pub routes : RouteLists

-- a fabric: what it was made with, and its state
pub record FabricSeen (R : Type 0) : Type 0 where
  pub tables : FabricTables R
  pub state : FabricState

-- what the steps of packets read, of an area, an island, rows and routes
abbrev pub parts_with : AreaParts → Topology → Rows → RouteLists → FabricParts
parts_with area island rows routes = record { area = area; island = island; rows = rows; link_of = routes.links }

-- what they read of such tables, where the rows of such a source are these
abbrev pub parts_of : {R : Type 0} → (R → Rows) → FabricTables R → FabricParts
parts_of rows tables = parts_with tables.area tables.island (rows tables.rows) tables.routes
