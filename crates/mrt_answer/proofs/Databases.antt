-- What a database that was settled, or was not, tells of the LSAs that entered it.
use Rattle.std.proofs.Common.{◌≡◌, Option, Some, None, Result, Err}
use Rattle.lsdb.specs.Conflicts.{settled_by}
use Rattle.lsdb.specs.declared.change.Conflict.{Conflict}

pub one_there : (conflict : Option Conflict) (answer : Result (Unit {0}) Conflict) (which : Conflict)
    → answer ≡ settled_by conflict → answer ≡ Err which → conflict ≡ Some which
one_there None answer which told is = absurd cc
one_there (Some c) answer which told is = cc
