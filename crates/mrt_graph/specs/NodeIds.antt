-- What names a node, and where it stands among others.
use Rattle.std.specs.Prelude.{ℕ, List, Option}
use Rattle.std.specs.List.{position}
use Rattle.mrt_graph.specs.declared.node_id.Kind.TheVariants as kinds
use Rattle.mrt_graph.specs.declared.node_id.NodeId.{NodeId}
use Rattle.mrt_graph.specs.SameGraph.{same_id}

-- the router of that ID, and the network of that designated router's interface address
abbrev pub router : ℕ → NodeId
router number = record { kind = kinds.Router; number = number }

abbrev pub network : ℕ → NodeId
network number = record { kind = kinds.Network; number = number }

-- a node's number: its place among the nodes
abbrev pub number_of : List NodeId → NodeId → Option ℕ
number_of ids id = position (same_id id) ids
