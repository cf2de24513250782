use Rattle.std.proofs.Common.{◌≡◌}
use Rattle.fabric.specs.Viewed.{parts_of}
use Rattle.fabric.proofs.StepsPrinted.{HasStepped}
use Rattle.fabric.proofs.stepping.tell_steps.Given as goal

abbrev pub invariant-loop : goal.invariant-loop
invariant-loop g l = record {
  tables : l.fabric.tables ≡ l.fn.fabric.tables;
  stepped : HasStepped (parts_of g.R.RowsOf.rows l.fn.fabric.tables) l.fn.fabric.state l.fabric.state l.counter l.fn.text.items l.text.items;
}
