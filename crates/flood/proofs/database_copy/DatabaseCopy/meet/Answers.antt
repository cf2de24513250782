use Rattle.std.proofs.Common.{length}
use Rattle.flood.proofs.database_copy.DatabaseCopy.meet.Goals as goal

pub returns-clause-within : goal.returns-clause-within
returns-clause-within c =
    c.turn.ensures.within (length c.args.lsas.now) c.requires.there c.requires.number
