use Rattle.std.proofs.Common.{◌-◌, length}
use Rattle.area_graph.specs.steps.EntryOrder.{AreBefore}
use Rattle.area_graph.proofs.back_marks.first_from.Given as goal

abbrev pub invariant-loop-at : goal.invariant-loop-at
invariant-loop-at l = AreBefore l.tail l.far l.entries l.at

abbrev pub decreases-loop-at : goal.decreases-loop-at
decreases-loop-at l = length l.entries - l.at
