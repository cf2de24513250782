use Rattle.std.proofs.Common.{take}
use Rattle.mrt_graph.specs.Reaches.{AreDifferent}
use Rattle.mrt_plain.proofs.arrival.are_different.Given as goal

abbrev pub invariant-loop-later : goal.invariant-loop-later
invariant-loop-later l = AreDifferent (take l.later l.nodes)
