use Rattle.std.proofs.lemmas.Result.{on_ok_weaker}
use Rattle.fabric.specs.Viewed.{parts_of}
use Rattle.fabric.specs.Trace.{failures_of}
use Rattle.fabric.proofs.RunsOn.{told_on}
use Rattle.fabric.proofs.telling.tell_beginning.Goals as goal

pub tell_one-requires-clause-served : goal.tell_one-requires-clause-served
tell_one-requires-clause-served g c = rw (c.tell_failure.ensures.tables, c.entering.ensures) c.requires.served

pub returns-clause-told : goal.returns-clause-told
returns-clause-told g c =
    on_ok_weaker c.tell_one.result
    (λ entered.
    told_on (parts_of g.R.RowsOf.rows c.args.fabric.now.tables) c.args.fabric.now.state c.tell_failure.new.fabric.state c.tell_one.new.fabric.state
    (failures_of c.args.area.now c.args.trace.now.failed) _ c.args.text.now.items c.tell_failure.new.text.items c.tell_one.new.text.items c.in_ok-tell_failure.ensures.told
    (rw (c.tell_failure.ensures.tables, c.entering.ensures) at entered))
    c.tell_one.ensures.told
