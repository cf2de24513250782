use Rattle.std.proofs.Common.{◌≡◌, ◌≤◌, ℕ, get_or, vec_len, vec_capacity}
use Rattle.area_graph.specs.steps.EntryOrder.{AreBefore}
use Rattle.area_graph.proofs.back_marks.marks_at_start.Given as goal

abbrev pub invariant-loop-node : goal.invariant-loop-node
invariant-loop-node l = record {
  begins : (v : ℕ) → AreBefore v 0 l.entries (get_or l.marks.items v 0);
  many : vec_len l.marks ≡ l.node;
  room : l.nodes ≤ vec_capacity l.marks;
  before : AreBefore l.node 0 l.entries l.at;
}
