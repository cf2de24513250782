use Rattle.std.proofs.Common.{◌≡◌, ◌≤◌, length}
use Rattle.mrt_graph.specs.declared.cert.CertFile.{CertFile}
use Rattle.mrt_report.specs.ByColumn.{IsRowByColumn}
use Rattle.mrt_rows.specs.CertOf.{IsCertOf}
use Rattle.mrt_rows.specs.Rooted.{MakeColumns}
use Rattle.mrt_answer.specs.Made.{with_cert}
use Rattle.mrt_calls.specs.steps.Filling.{IsFilled}
use Rattle.mrt_calls.proofs.table.fill.Given as goal

-- The rows of the nodes so far are in the buffer, as far as there is room.
abbrev pub invariant-loop-place : goal.invariant-loop-place
invariant-loop-place l =
    (l.columns.root ≡ l.initial.columns.root)
    × MakeColumns l.parts.island.now l.columns
    × (length l.rows ≡ length l.initial.rows)
    × (l.count ≤ l.place)
    × ((file : CertFile) → IsCertOf l.parts.island.now l.initial.columns.root file
    → IsFilled (IsRowByColumn (with_cert l.parts file.cert)) l.parts.source l.place l.rows l.count)
