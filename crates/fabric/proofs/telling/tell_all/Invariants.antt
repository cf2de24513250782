use Rattle.std.proofs.Common.{◌≡◌, map, take}
use Rattle.fabric.specs.Viewed.{parts_of}
use Rattle.fabric.specs.NamedEvents.{event_of}
use Rattle.fabric.specs.steps.Printed.{IsPrinted}
use Rattle.fabric.proofs.telling.tell_all.Given as goal

abbrev pub invariant-loop-event : goal.invariant-loop-event
invariant-loop-event g l = record {
  tables : l.fabric.tables ≡ l.fn.fabric.tables;
  told : IsPrinted (parts_of g.R.RowsOf.rows l.fn.fabric.tables) l.fn.fabric.state (map (event_of l.area) (take l.event-index l.events)) l.fabric.state
      l.fn.text.items l.text.items;
}
