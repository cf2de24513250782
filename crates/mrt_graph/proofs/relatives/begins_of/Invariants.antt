use Rattle.std.proofs.Common.{◌≡◌, ◌<◌, ◌≤◌, ◌+◌, ℕ, Some, length, slice_get, vec_capacity}
use Rattle.mrt_graph.specs.Kin.{kin_of}
use Rattle.mrt_graph.specs.steps.Kin.{kin_before}
use Rattle.mrt_graph.proofs.relatives.begins_of.Given as goal

abbrev pub invariant-loop-s : goal.invariant-loop-s
invariant-loop-s l = record {
  room : length l.nodes + 1 ≤ vec_capacity l.begins;
  many : length l.begins.items ≡ l.s;
  sum : l.sum ≡ kin_before (kin_of l.nodes) l.s;
  begins : (k : ℕ) → k < l.s → slice_get l.begins.items k ≡ Some (kin_before (kin_of l.nodes) k);
}
