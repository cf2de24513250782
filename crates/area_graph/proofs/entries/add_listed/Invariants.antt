use Rattle.std.proofs.Common.{◌≡◌, ◌≤◌, ◌+◌, ◌++◌, drop, length, vec_len}
use Rattle.std.specs.Prelude.{vec_capacity}
use Rattle.mrt_graph.specs.declared.node_id.NodeId.{NodeId}
use Rattle.area_graph.specs.Entries.{entries_of_listed}
use Rattle.area_graph.specs.steps.NumberedEntries.{by_number}
use Rattle.area_graph.proofs.entries.add_listed.Given as goal

abbrev pub invariant-loop-place : goal.invariant-loop-place
invariant-loop-place l = record {
  whole : (own : NodeId) → l.found.items ++ by_number l.ids l.tail (entries_of_listed own l.place (drop l.place l.routers))
      ≡ l.fn.found.items ++ by_number l.ids l.tail (entries_of_listed own 0 l.routers);
  room : vec_len l.found + length l.routers ≤ vec_capacity l.found + l.place;
}
