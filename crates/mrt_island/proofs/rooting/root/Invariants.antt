use Rattle.mrt_island.specs.Policy.{policy_of}
use Rattle.mrt_island.proofs.RootSoFar.{IsRootSoFar}
use Rattle.mrt_island.proofs.rooting.root.Given as goal

abbrev pub invariant-loop-k : goal.invariant-loop-k
invariant-loop-k l = IsRootSoFar (policy_of l.profile) l.ids l.k l.best l.lowest
