use Rattle.std.proofs.Common.{◌≡◌}
use Rattle.area_tests.proofs.instances.put_installed.Given as goal

abbrev pub invariant-loop-told : goal.invariant-loop-told
invariant-loop-told l = l.database.greatest ≡ l.greatest
