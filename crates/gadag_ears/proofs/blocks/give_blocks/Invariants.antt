use Rattle.gadag_ears.specs.steps.Blocks.{AreBlocksGiven}
use Rattle.gadag_ears.proofs.blocks.give_blocks.Given as goal

abbrev pub invariant-loop-e : goal.invariant-loop-e
invariant-loop-e l = AreBlocksGiven l.g l.places l.e l.initial.marks.items l.marks.items
