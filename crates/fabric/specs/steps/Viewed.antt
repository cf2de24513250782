-- What the code's parts are seen as.
use Rattle.fabric.specs.FabricParts.{FabricParts}
use Rattle.fabric.specs.declared.parts.Parts.{Parts}
use Rattle.mrt_graph.specs.Rows.{Rows}
use Rattle.primary_alt.specs.RoutesMade.{AreMade}
use Rattle.fabric.specs.Viewed.{FabricTables, parts_of}

-- what the parts refer to
abbrev pub tables_of : {R : Type 0} → Parts R → FabricTables R
tables_of parts = record {
  area = parts.area.now;
  island = parts.island.now;
  rows = parts.rows.now;
  routes = parts.routes.now;
}

-- what the steps of packets read, of the parts
abbrev pub viewed : {R : Type 0} → (R → Rows) → Parts R → FabricParts
viewed rows parts = parts_of rows (tables_of parts)

-- the routes are made with the area and the island
abbrev pub AreRouted : {R : Type 0} → Parts R → Type 0
AreRouted parts = AreMade parts.area.now parts.island.now parts.routes.now
