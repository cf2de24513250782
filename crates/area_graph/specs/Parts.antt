-- What an area is made of.
use Rattle.std.specs.Prelude.{List}
use Rattle.mrt_graph.specs.declared.node_id.NodeId.{NodeId}
use Rattle.area_graph.specs.declared.area_types.Arc.{Arc}
use Rattle.area_graph.specs.declared.area_types.Bond.{Bond}

-- node identifiers, arcs, and bonds, all by number
pub record AreaParts : Type 0 where
  pub ids : List NodeId
  pub arcs : List Arc
  pub bonds : List Bond
