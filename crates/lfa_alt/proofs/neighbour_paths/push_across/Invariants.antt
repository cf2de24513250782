use Rattle.lfa_alt.specs.steps.NeighbourPaths.{AddsAcross}
use Rattle.lfa_alt.proofs.neighbour_paths.push_across.Given as goal

abbrev pub invariant-loop-second : goal.invariant-loop-second
invariant-loop-second l = AddsAcross l.arcs l.fn.source l.number l.arc l.second l.fn.paths.items l.paths.items
