use Rattle.std.proofs.Common.{◌-◌, length}
use Rattle.gadag_ears.specs.steps.Growing.{HasRoom, IsEarTurn}
use Rattle.gadag_ears.proofs.turns.take_turns.Given as goal

abbrev pub invariant-loop-next : goal.invariant-loop-next
invariant-loop-next l = record {
  turn : IsEarTurn l.g l.fn.root l.tree l.here l.growing;
  has_room : HasRoom (length l.g.ids) l.growing;
}

abbrev pub decreases-loop-next : goal.decreases-loop-next
decreases-loop-next l = length l.g.ids - length l.growing.order.items
