use Rattle.std.proofs.Common.{drop}
use Rattle.gadag_ears.specs.steps.Growing.{HasEntered}
use Rattle.gadag_ears.proofs.growing.enter_all.Given as goal

abbrev pub invariant-entry : goal.invariant-entry
invariant-entry l = HasEntered l.initial.growing l.head l.block (drop l.k l.initial.growing.added.items) l.growing
