-- What is said of a result, handed on.
use Rattle.std.proofs.Common.{◌≡◌, Result, Ok, Err, sym, subst}
use Rattle.std.specs.Prelude.{IfErr, IfOk}
use Rattle.std.specs.Result.{IsErrAnd}
use Rattle.mrt_exit.specs.declared.exit.Exit.{Exit}

-- what an error tells, handed on
pub handed_on : {T : Type 0} (result : Result T Exit) (exit : Exit) → IsErrAnd result (λ told. told ≡ exit)
    → (P : Exit → Type 0) → P exit → IfErr result P
handed_on (Ok t) exit is P held = tt
handed_on (Err told) exit is P held = subst P (sym is) held

-- what follows from what is said of a value
pub if_ok : {T E : Type 0} (result : Result T E) (P Q : T → Type 0) → IfOk result P → ((t : T) → P t → Q t) → IfOk result Q
if_ok (Ok t) P Q held follows = follows t held
if_ok (Err error) P Q held follows = tt
