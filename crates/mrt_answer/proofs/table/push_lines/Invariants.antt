use Rattle.std.proofs.Common.{◌≡◌}
use Rattle.mrt_graph.specs.declared.cert.CertFile.{CertFile}
use Rattle.mrt_report.specs.steps.AddsLines.{AddsLines}
use Rattle.mrt_report.specs.ByColumn.{IsLineByColumn}
use Rattle.mrt_rows.specs.CertOf.{IsCertOf}
use Rattle.mrt_rows.specs.Rooted.{MakeColumns}
use Rattle.mrt_answer.specs.Made.{with_cert}
use Rattle.mrt_answer.proofs.table.push_lines.Given as goal

abbrev pub invariant-loop-place : goal.invariant-loop-place
invariant-loop-place l =
    (l.columns.root ≡ l.initial.columns.root)
    × MakeColumns l.parts.island.now l.columns
    × ((file : CertFile) → IsCertOf l.parts.island.now l.initial.columns.root file
    → AddsLines (IsLineByColumn (with_cert l.parts file.cert)) l.parts.source l.place l.initial.text.items l.text.items)
