use Rattle.std.proofs.Common.{◌≡◌, ◌≢◌, ◌<◌, ◌-◌, ◌*◌, ℕ, length}
use Rattle.mrt_rows.specs.steps.ColumnOf.{IsRowIn}
use Rattle.mrt_rows.specs.AimedColumns.{AreColumns}
use Rattle.mrt_rows.specs.steps.RowsOf.{row_among}
use Rattle.mrt_rows.specs.steps.ListedDirections.{IsNode, directions_by}
use Rattle.mrt_rows.proofs.certificate.all_rows.Given as goal

abbrev pub invariant-loop-n : goal.invariant-loop-n
invariant-loop-n l = record {
  room : length l.rows.items ≡ length l.rooted.graph.now.ids * (length l.rooted.graph.now.ids - 1);
  held : AreColumns l.rooted.graph.now l.rooted.root (directions_by l.rooted) l.columns;
  done : (s t : ℕ) → IsNode l.rooted s → IsNode l.rooted t → t < l.n → s ≢ t
      → IsRowIn l.rooted.graph.now l.rooted.root (directions_by l.rooted) s t (row_among (length l.rooted.graph.now.ids) l.rows.items s t);
}
