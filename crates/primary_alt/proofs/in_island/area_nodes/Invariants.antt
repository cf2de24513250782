use Rattle.std.proofs.Common.{◌≡◌, ◌≤◌, ℕ, Some, length, slice_get, vec_capacity, vec_len}
use Rattle.mrt_graph.specs.declared.node_id.NodeId.{NodeId}
use Rattle.primary_alt.proofs.in_island.area_nodes.Given as goal

abbrev pub invariant-loop-n : goal.invariant-loop-n
invariant-loop-n l = record {
  count : l.count ≡ length l.g.ids;
  many : vec_len l.spots ≡ l.n;
  held : length l.spots.items ≡ l.n;
  room : l.count ≤ vec_capacity l.spots;
  so_far : (k s : ℕ) (id : NodeId) → slice_get l.g.ids k ≡ Some id → slice_get l.spots.items k ≡ Some s → slice_get l.area.ids s ≡ Some id;
}
