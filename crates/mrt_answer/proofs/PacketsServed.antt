-- What is made for the destinations of packets serves them.
use Rattle.std.proofs.Common.{◌≡◌, ◌<◌, ◌∙◌, ℕ, List, Option, Some, None, length, slice_get, refl, ap, subst, arith}
use Rattle.std.specs.Prelude.{Contains}
use Rattle.std.specs.Option.{unwrap_or}
use Rattle.std.proofs.lemmas.Option.{slice_get_within}
use Rattle.mrt_graph.proofs.IdPlaces.{number_found}
use Rattle.mrt_graph.specs.NodeIds.{number_of}
use Rattle.area_graph.specs.Parts.{AreaParts}
use Rattle.fabric.specs.FabricParts.{ArePartsKept, FabricParts, node_at}
use Rattle.fabric.specs.Served.{AgreeFor, IsServedBy}
use Rattle.fabric.specs.Viewed.{parts_with}
use Rattle.fabric.proofs.Islands.{is_one}
use Rattle.fabric.proofs.Routed.{routed_node}
use Rattle.fabric.specs.NamedEvents.{spot_of}
use Rattle.mrt_graph.specs.Certificate.{row_of}
use Rattle.mrt_graph.specs.Topology.{Topology}
use Rattle.mrt_graph.specs.declared.node_id.NodeId.{NodeId}
use Rattle.mrt_graph.proofs.ListTests.{there}
use Rattle.mrt_rows.specs.RowsTo.{rows_in}
use Rattle.primary_alt.specs.RouteLists.{RouteLists}
use Rattle.primary_alt.specs.RoutesMade.{AreMade}
use Rattle.mrt_answer.specs.declared.packets.AreaAndIsland.{AreaAndIsland}
use Rattle.mrt_answer.specs.declared.packets.Tables.{Tables}
use Rattle.mrt_answer.specs.steps.Made.{AreTablesTo}
use Rattle.mrt_answer.specs.Texts.{ArePartsIn}
use Rattle.mrt_answer.proofs.OneProxy.{accepted_for}

-- tables to the numbers that are lent are tables to the destinations
pub made_for : {net : AreaAndIsland} {lent spots : List ℕ} {tables : Tables} → lent ≡ spots → AreTablesTo net lent tables → AreTablesTo net spots tables
made_for {net} {lent} {spots} {tables} same made = subst (λ (xs : List ℕ). AreTablesTo net xs tables) same made

module _ {net : AreaAndIsland} {spots : List ℕ} {tables : Tables} (made : AreTablesTo net spots tables) where
  -- what the steps read, and the same with all rows of the certificate
  abbrev pub parts : FabricParts
  parts = parts_with net.area net.island.graph (rows_in tables.rows) tables.routes

  abbrev pub whole : FabricParts
  whole = parts_with net.area net.island.graph (row_of made.file.cert) tables.routes

  inside : (t d : ℕ) → node_at parts t ≡ Some d → t < length net.area.ids
  inside t d is = let one = is_one parts t d is in slice_get_within net.area.ids t one.id one.in_area

  -- a destination is served, if it is among these or no node of the area
  pub served : (t : ℕ) → (t < length net.area.ids → Contains spots t) → IsServedBy parts tables.routes t
  served t among = record {
    rows = λ d is. record {
      cert = made.file.cert;
      accepted = accepted_for net.island.graph net.island.root made.file made.certificate;
      same = made.agree t (among (inside t d is)) d is;
    };
    primaries = λ within. (made.columns t).1 (among within);
  }

  pub agrees : (t : ℕ) → (t < length net.area.ids → Contains spots t) → AgreeFor parts (row_of made.file.cert) t
  agrees t among = λ d is. made.agree t (among (inside t d is)) d is

  pub are_whole : ArePartsIn net.area net.island whole
  are_whole = record {
    area_is = refl;
    island_is = refl;
    links_are = made.links;
    file = made.file;
    certificate = made.certificate;
    rows_are = refl;
  }

-- the island node that a node of the area is, by the routes
pub node_of_routes : (parts : FabricParts) → ArePartsKept parts → (routes : RouteLists) → AreMade parts.area parts.island routes
    → (t d : ℕ) → node_at parts t ≡ Some d → slice_get routes.nodes t ≡ Some (Some d)
node_of_routes parts kept routes made t d is =
    let one = is_one parts t d is in
    let within = slice_get_within parts.area.ids t one.id one.in_area in
    let node = there routes.nodes t (omega (arith, within, made.nodes.one_each)) in
    node.1 ∙ ap (λ (o : Option ℕ). Some o) (routed_node parts kept routes made t node.0 within node.1 ∙ is)

pub node_below : (area : AreaParts) (graph : Topology) (routes : RouteLists) → AreMade area graph routes
    → (t d : ℕ) → slice_get routes.nodes t ≡ Some (Some d) → d < length graph.ids
node_below area graph routes made t d at =
    let within = slice_get_within routes.nodes t (Some d) at in
    let id = there area.ids t (omega (arith, within, made.nodes.one_each)) in
    slice_get_within graph.ids d id.0 (made.nodes.same t id.0 (Some d) id.1 at)

-- the number that stands for a destination, where the area has it
pub spot_stands : (area : AreaParts) (id : NodeId) → spot_of area id < length area.ids → slice_get area.ids (spot_of area id) ≡ Some id
spot_stands area id within = go (number_of area.ids id) refl within
  where
    go : (place : Option ℕ) → number_of area.ids id ≡ place → unwrap_or place (length area.ids) < length area.ids
        → slice_get area.ids (unwrap_or place (length area.ids)) ≡ Some id
    go None is below = absurd (omega (arith, below))
    go (Some t) is below = number_found area.ids id t is
