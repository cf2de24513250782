use Rattle.std.proofs.Common.{◌∙◌, refl}
use Rattle.std.proofs.lemmas.Option.{slice_get-get_or}
use Rattle.mrt_graph.proofs.ListPlaces.{contains_at}
use Rattle.fabric.specs.Viewed.{parts_of}
use Rattle.fabric.specs.NamedEvents.{event_of}
use Rattle.fabric.proofs.RunsOn.{all_told, one_more_told, told_none}
use Rattle.fabric.proofs.telling.tell_all.Goals as goal

pub loop-event-init : goal.loop-event-init
loop-event-init g c = record {
  tables = refl;
  told = told_none (parts_of g.R.RowsOf.rows c.args.fabric.now.tables) c.args.fabric.now.state c.args.text.now.items;
}

pub tell-requires-clause-served : goal.tell-requires-clause-served
tell-requires-clause-served g c =
    rw (c.loop-event.invariant.tables, c.event_of.ensures, ← c.requires.area)
    (c.requires.served _ (contains_at c.args.events.now c.loop-event.event-index _ (slice_get-get_or c.args.events.now c.loop-event.event-index _ c.loop-event-test.true)))

pub loop-event-preserved : goal.loop-event-preserved
loop-event-preserved g c = record {
  tables = c.tell.ensures.tables ∙ c.loop-event.invariant.tables;
  told = one_more_told (parts_of g.R.RowsOf.rows c.args.fabric.now.tables) c.args.fabric.now.state c.loop-event.fabric.state c.tell.new.fabric.state (event_of c.args.area.now)
      c.args.events.now _ c.loop-event.event-index c.args.text.now.items c.loop-event.text.items c.tell.new.text.items c.loop-event-test.true c.loop-event.invariant.told
      (rw (c.loop-event.invariant.tables, c.event_of.ensures) at c.in_ok-tell.ensures.told);
}

pub returns-clause-told : goal.returns-clause-told
returns-clause-told g c =
    all_told (parts_of g.R.RowsOf.rows c.args.fabric.now.tables) c.args.fabric.now.state c.loop-event.fabric.state (event_of c.args.area.now)
    c.args.events.now c.loop-event.event-index c.args.text.now.items c.loop-event.text.items c.loop-event-test.false
    c.loop-event.invariant.told
