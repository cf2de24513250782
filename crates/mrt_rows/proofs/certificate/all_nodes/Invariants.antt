use Rattle.std.proofs.Common.{◌≡◌, ◌≤◌, ◌<◌, ℕ, Some, length, slice_get, vec_capacity}
use Rattle.mrt_graph.specs.declared.node_id.NodeId.{NodeId}
use Rattle.mrt_rows.specs.CertOf.{node_words}
use Rattle.mrt_rows.specs.ListedDirections.{directions_of}
use Rattle.mrt_rows.proofs.certificate.all_nodes.Given as goal

abbrev pub invariant-loop-n : goal.invariant-loop-n
invariant-loop-n l = record {
  count : l.count ≡ length l.g.ids;
  many : length l.nodes.items ≡ l.n;
  room : l.count ≤ vec_capacity l.nodes;
  so_far : (a : ℕ) (id : NodeId) → a < l.n → slice_get l.g.ids a ≡ Some id → slice_get l.nodes.items a ≡ Some (node_words (directions_of l.g l.d) a id);
}
