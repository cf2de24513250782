use Rattle.fabric.specs.Viewed.{parts_of}
use Rattle.fabric.proofs.ServedEvents.{alone_served}
use Rattle.fabric.proofs.telling.tell_one.Goals as goal

pub tell_all-requires-clause-served : goal.tell_all-requires-clause-served
tell_all-requires-clause-served g c =
    rw c.as_slice.ensures (alone_served (parts_of g.R.RowsOf.rows c.args.fabric.now.tables) c.args.fabric.now.tables.routes c.args.event (rw (← c.requires.area) at c.requires.served))
