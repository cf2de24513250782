use Rattle.lfa_alt.proofs.PathsFound.{ArePathsTo}
use Rattle.lfa_alt.proofs.neighbour_paths.paths.Given as goal

abbrev pub invariant-loop-number : goal.invariant-loop-number
invariant-loop-number l = ArePathsTo l.area l.fn.source l.number l.paths.items
