use Rattle.lowpoint_dfs.specs.steps.Lowering.{IsLowest}
use Rattle.lowpoint_dfs.proofs.lowpoints.least_low.Given as goal

abbrev pub invariant-loop-end : goal.invariant-loop-end
invariant-loop-end l = IsLowest l.nodes l.v l.ends l.end-index l.lowest
