-- What is left of the file that is open, told or not told.
use Rattle.std.specs.Prelude.{◌≡◌, ◌++◌, ℕ, List, Option, Some, None, IfSome}
use Rattle.std.specs.Option.{IsSomeAnd}
use Rattle.mrt_io.specs.Holding.{Files}

-- a file of this name is held, and it is told that all of its bytes are left; no claim where it is not told what is held
abbrev pub IsLeftOf : Option Files → List ℕ → Option (List ℕ) → Type 0
IsLeftOf held name left = IfSome held (λ files. IsSomeAnd left (λ bytes. files name ≡ Some bytes))

-- these were the first bytes that were left, and the others are left now; what was not told is not told now
abbrev pub IsTakenOff : Option (List ℕ) → List ℕ → Option (List ℕ) → Type 0
IsTakenOff None taken now = now ≡ None
IsTakenOff (Some before) taken now = IsSomeAnd now (λ left. before ≡ taken ++ left)
