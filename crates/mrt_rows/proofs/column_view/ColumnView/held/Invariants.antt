use Rattle.std.proofs.Common.{◌≡◌, ◌≤◌, length, take, vec_capacity}
use Rattle.mrt_rows.proofs.column_view.ColumnView.held.Given as goal

abbrev pub invariant-loop-n : goal.invariant-loop-n
invariant-loop-n l = record {
  count : l.count ≡ length l.self;
  made : l.rows.items ≡ take l.n l.self;
  room : l.count ≤ vec_capacity l.rows;
}
