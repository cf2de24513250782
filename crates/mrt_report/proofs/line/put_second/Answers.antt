use Rattle.std.proofs.Common.{append-nil, sym}
use Rattle.mrt_report.proofs.line.put_second.Goals as goal

pub returns-in-None-clause-added : goal.returns-in-None-clause-added
returns-in-None-clause-added c = rw c.in-None.is (sym (append-nil c.args.line.now))
