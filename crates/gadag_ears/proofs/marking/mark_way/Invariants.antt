use Rattle.std.proofs.Common.{take}
use Rattle.gadag_ears.specs.steps.Marking.{AreSetAlong}
use Rattle.gadag_ears.proofs.marking.mark_way.Given as goal

abbrev pub invariant-loop-k : goal.invariant-loop-k
invariant-loop-k l = AreSetAlong l.g l.tree l.kind l.fn.x l.fn.link (take l.k l.new) l.fn.marks.items l.marks.items
