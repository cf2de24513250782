use Rattle.std.proofs.Common.{rules}
use Rattle.mrt_report.proofs.uses.are_told.Goals as goal

pub returns-then-uses-2 : goal.returns-then-uses-2
returns-then-uses-2 c = search rules
