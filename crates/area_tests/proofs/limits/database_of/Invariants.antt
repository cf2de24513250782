use Rattle.lsdb.specs.Installing.{IsBehind}
use Rattle.area_tests.proofs.limits.database_of.Given as goal

abbrev pub invariant-loop-number : goal.invariant-loop-number
invariant-loop-number l = IsBehind l.database.greatest l.number
