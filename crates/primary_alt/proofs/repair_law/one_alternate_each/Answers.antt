use Rattle.primary_alt.proofs.SomeAlternate.{some_alternate}
use Rattle.primary_alt.proofs.repair_law.one_alternate_each.Goals as goal

pub returns-clause-some : goal.returns-clause-some
returns-clause-some c = some_alternate
