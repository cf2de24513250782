use Rattle.std.proofs.Common.{◌≡◌, ◌≢◌, ◌<◌, ℕ, Some, length, slice_get}
use Rattle.mrt_graph.specs.declared.cert.Row.{Row}
use Rattle.mrt_rows.specs.steps.RowsOf.{row_among}
use Rattle.mrt_rows.proofs.certificate.put_column.Given as goal

abbrev pub invariant-loop-n : goal.invariant-loop-n
invariant-loop-n l = record {
  room : length l.rows ≡ length l.initial.rows;
  there : (s : ℕ) (row : Row) → s < l.n → s < l.count → s ≢ l.to → slice_get l.column s ≡ Some (Some row) → row_among l.count l.rows s l.to ≡ Some row;
  elsewhere : (u v : ℕ) → v ≢ l.to → row_among l.count l.rows u v ≡ row_among l.count l.initial.rows u v;
}
