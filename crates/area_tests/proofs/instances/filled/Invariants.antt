use Rattle.lsdb.specs.Installing.{IsBehind}
use Rattle.area_tests.proofs.instances.filled.Given as goal

abbrev pub invariant-loop-place : goal.invariant-loop-place
invariant-loop-place l = IsBehind l.database.greatest l.place
