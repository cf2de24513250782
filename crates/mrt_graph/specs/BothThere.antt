-- Tests of two things that hold only where both are there: what is missing or out of range fails a rule, and never passes it.
use Rattle.std.specs.Prelude.{◌==◌, ℕ, Bool, false, Option, not, nat_lt}
use Rattle.std.specs.Option.{option_map_or}

-- two things are there, and pass a test
abbrev pub both : {A B : Type 0} → (A → B → Bool) → Option A → Option B → Bool
both test x y = option_map_or (λ a. option_map_or (test a) y false) x false

-- two numbers are there, and are equal
abbrev pub are_equal : Option ℕ → Option ℕ → Bool
are_equal x y = both (λ a b. a == b) x y

-- two numbers are there, and differ
abbrev pub are_different : Option ℕ → Option ℕ → Bool
are_different x y = both (λ a b. not (a == b)) x y

-- two numbers are there, and the first is the smaller one
abbrev pub is_less : Option ℕ → Option ℕ → Bool
is_less x y = both nat_lt x y
