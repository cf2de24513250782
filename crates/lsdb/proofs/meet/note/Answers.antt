use Rattle.std.proofs.Common.{◌∙◌, ap, not}
use Rattle.lsdb.proofs.Stores.{stays}
use Rattle.lsdb.proofs.meet.note.Goals as goal

pub returns-else-is_none-clause-places : goal.returns-else-is_none-clause-places
returns-else-is_none-clause-places c =
    stays c.args.differing.now.items c.args.place c.args.at c.index.result.now
    (c.is_none.ensures ∙ ap not c.if-is_none.false) c.index.ensures
