use Rattle.std.proofs.Common.{length}
use Rattle.link_direction.specs.steps.Counting.{AreCounts, entered_by}
use Rattle.link_direction.proofs.counting.entering.Given as goal

abbrev pub invariant-loop-e : goal.invariant-loop-e
invariant-loop-e l = AreCounts (entered_by l.g l.marks) l.e (length l.g.ids) l.counts.items
