-- What a shelf holds, told or not told.
use Rattle.std.specs.Prelude.{◌≡◌, ◌<◌, ℕ, List, Option, Some, None, IfSome, IsSome, length}
use Rattle.std.specs.Option.{IsSomeAnd}

-- the bytes of each name that is held
abbrev pub Files : Type 0
Files = List ℕ → Option (List ℕ)

-- a file of this name is held and these are its bytes; no claim where it is not told
abbrev pub IsFileOf : Option Files → List ℕ → List ℕ → Type 0
IsFileOf held name bytes = IfSome held (λ files. files name ≡ Some bytes)

-- a file of this name is held and has more bytes than the limit; no claim where it is not told
abbrev pub IsTooLong : Option Files → List ℕ → ℕ → Type 0
IsTooLong held name limit = IfSome held (λ files. IsSomeAnd (files name) (λ bytes. limit < length bytes))

-- it is told that a file of this name is held and has more bytes than the limit
abbrev pub IsKnownTooLong : Option Files → List ℕ → ℕ → Type 0
IsKnownTooLong held name limit = IsSomeAnd held (λ files. IsSomeAnd (files name) (λ bytes. limit < length bytes))

-- it is told that no file of this name is held
abbrev pub IsKnownMissing : Option Files → List ℕ → Type 0
IsKnownMissing held name = IsSomeAnd held (λ files. files name ≡ None)

-- it is told that a file of this name is held
abbrev pub IsKnownThere : Option Files → List ℕ → Type 0
IsKnownThere held name = IsSomeAnd held (λ files. IsSome (files name))
