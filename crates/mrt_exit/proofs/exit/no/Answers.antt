use Rattle.std.proofs.Common.{append_assoc}
use Rattle.mrt_exit.proofs.exit.no.Goals as goal

pub returns : goal.returns
returns c = simp (c.put-3.ensures.added, c.put_number-3.ensures.added, c.put-2.ensures.added, c.put_number-2.ensures.added, c.put.ensures.added, c.put_number.ensures.added, c.line_of-line.ensures, c.from.ensures, c.from-2.ensures, c.from-3.ensures, append_assoc)
