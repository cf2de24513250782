use Rattle.std.proofs.Common.{◌<◌, length}
use Rattle.mrt_report.specs.steps.Viewed.{viewed}
use Rattle.mrt_report.proofs.Telling.{TellSoFar}
use Rattle.mrt_report.proofs.uses.uses_of.Given as goal

abbrev pub invariant-loop-left : goal.invariant-loop-left
invariant-loop-left g l =
    (l.at < length l.parts.island.now.ids)
    × TellSoFar (viewed g.R.RowsOf.rows l.parts) l.parts.to l.color l.left l.at l.first l.uses.first
    × TellSoFar (viewed g.R.RowsOf.rows l.parts) l.parts.to l.color l.left l.at l.second l.uses.second

abbrev pub decreases-loop-left : goal.decreases-loop-left
decreases-loop-left g l = l.left
