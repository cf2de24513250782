use Rattle.std.proofs.Common.{length, ◌-◌, ◌≤◌}
use Rattle.area_graph.specs.steps.Starts.{below}
use Rattle.area_graph.proofs.starts.first_from.Given as goal

abbrev pub invariant-loop-at : goal.invariant-loop-at
invariant-loop-at l = l.at ≤ below l.s l.arcs

abbrev pub decreases-loop-at : goal.decreases-loop-at
decreases-loop-at l = length l.arcs - l.at
