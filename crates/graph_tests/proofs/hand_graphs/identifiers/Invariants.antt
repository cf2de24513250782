use Rattle.std.proofs.Common.{◌≡◌, ◌<◌, ◌+◌, ℕ, length, slice_index_or}
use Rattle.std.specs.Prelude.{nat_lt, if◌then◌else◌}
use Rattle.mrt_graph.specs.declared.node_id.Kind.TheVariants.{Network, Router}
use Rattle.mrt_graph.specs.declared.node_id.NodeId.{NodeId}
use Rattle.graph_tests.proofs.hand_graphs.identifiers.Given as goal

abbrev pub invariant-loop-k : goal.invariant-loop-k
invariant-loop-k l = record {
  count : length l.ids.items ≡ l.k;
  ids : (k : ℕ) (d : NodeId) → k < l.k → slice_index_or l.ids.items k d ≡ record { kind = if nat_lt k l.routers then Router else Network; number = k + 1 };
}
