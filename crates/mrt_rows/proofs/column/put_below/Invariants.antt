use Rattle.std.proofs.Common.{◌≡◌, length}
use Rattle.mrt_rows.specs.steps.ListedDirections.{IsNode, directions_by}
use Rattle.mrt_rows.proofs.Climbing.{IsClimbed}
use Rattle.mrt_rows.proofs.column.put_below.Given as goal

abbrev pub invariant-loop-c : goal.invariant-loop-c
invariant-loop-c l = record {
  one_each : length l.below ≡ length l.rooted.graph.now.ids;
  within : IsNode l.rooted l.c;
  climbed : IsClimbed l.rooted.graph.now l.rooted.root (directions_by l.rooted) l.fn.to l.c l.below;
}

abbrev pub decreases-loop-c : goal.decreases-loop-c
decreases-loop-c l = (directions_by l.rooted).order l.c
