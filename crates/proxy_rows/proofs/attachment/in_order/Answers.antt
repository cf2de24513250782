use Rattle.std.proofs.Common.{arith}
use Rattle.proxy_rows.proofs.attachment.in_order.Goals as goal

pub returns-then-one-other-clause-descending : goal.returns-then-one-other-clause-descending
returns-then-one-other-clause-descending c = λ most. absurd (omega arith)
