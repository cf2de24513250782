use Rattle.std.proofs.Common.{◌≡◌, ◌≤◌, length, vec_capacity, vec_len}
use Rattle.primary_alt.proofs.FirstColumns.{AreFirstsTo}
use Rattle.primary_alt.proofs.first_arcs.column.Given as goal

abbrev pub invariant-loop-x : goal.invariant-loop-x
invariant-loop-x l = record {
  firsts : AreFirstsTo l.arcs l.starts l.known l.firsts.items l.x;
  many : vec_len l.firsts ≡ l.x;
  held : length l.firsts.items ≡ l.x;
  room : length l.known ≤ vec_capacity l.firsts;
}
