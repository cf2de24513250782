-- What is seen of a graph's lists.
use Rattle.std.specs.Prelude.{List, map}
use Rattle.std.specs.declared.alloc.Global.{Global}
use Rattle.smallvec.specs.declared.SmallVec.{SmallVec}
use Rattle.mrt_graph.specs.declared.link.End.{End}
use Rattle.mrt_graph.specs.declared.link.Link.{Link}
use Rattle.mrt_graph.specs.declared.node_id.NodeId.{NodeId}
use Rattle.mrt_graph.specs.Topology.{Topology}

-- the lists of ends, each without the room that it has for more
abbrev pub lists_of : List (SmallVec End 4 Global) → List (List End)
lists_of rows = map (λ row. row.items) rows

-- what is seen of a graph's three lists
abbrev pub topology_of : List NodeId → List Link → List (SmallVec End 4 Global) → Topology
topology_of ids links ends = record { ids = ids; links = links; ends = lists_of ends }
