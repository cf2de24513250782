use Rattle.std.proofs.Common.{rules}
use Rattle.flood.proofs.database_copy.DatabaseCopy.turn.Goals as goal

pub returns-in-Replaced-clause-after : goal.returns-in-Replaced-clause-after
returns-in-Replaced-clause-after c = search rules
