-- What a graph holds (RFC 2328, section 2.1).
use Rattle.std.specs.Prelude.{List}
use Rattle.mrt_graph.specs.declared.link.End.{End}
use Rattle.mrt_graph.specs.declared.link.Link.{Link}
use Rattle.mrt_graph.specs.declared.node_id.NodeId.{NodeId}

-- node identifiers, links, and each node's ends, all by number
pub record Topology : Type 0 where
  pub ids : List NodeId
  pub links : List Link
  pub ends : List (List End)
