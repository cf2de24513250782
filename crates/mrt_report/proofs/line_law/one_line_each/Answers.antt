use Rattle.mrt_report.proofs.OneLine.{one_line}
use Rattle.mrt_report.proofs.line_law.one_line_each.Goals as goal

pub returns : goal.returns
returns c = one_line c.one_alternate_each.ensures.one
