use Rattle.std.proofs.Common.{refl}
use Rattle.lsdb.proofs.meet.change_of.Goals as goal

pub returns-in-Less : goal.returns-in-Less
returns-in-Less c = rw (← c.compare_ranks.ensures, c.in-Less.is) refl
