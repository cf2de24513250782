use Rattle.std.proofs.Common.{rules}
use Rattle.next_hops.proofs.next_hops.number_of.Goals as goal

pub returns-clause-none : goal.returns-clause-none
returns-clause-none c = search rules
