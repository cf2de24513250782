-- What holds at every place, and the first place where it fails.
use Rattle.std.specs.Prelude.{◌≡◌, ◌<◌, ℕ, Bool, true, false}

-- the test holds at each number below n
abbrev pub Each : (ℕ → Bool) → ℕ → Type 0
Each test n = (a : ℕ) → a < n → test a ≡ true

-- a is the least number below n where the test fails
pub record IsFirst (test : ℕ → Bool) (n a : ℕ) : Type 0 where
  pub within : a < n
  pub fails : test a ≡ false
  pub before : Each test a

-- the test holds at each two numbers below n
abbrev pub EachPair : (ℕ → ℕ → Bool) → ℕ → Type 0
EachPair test n = (a b : ℕ) → a < n → b < n → test a b ≡ true

-- among the pairs of numbers below n where the test fails, a is the least first one, and b the least second one beside
-- it
pub record IsFirstPair (test : ℕ → ℕ → Bool) (n a b : ℕ) : Type 0 where
  pub first_within : a < n
  pub second_within : b < n
  pub fails : test a b ≡ false
  pub before_first : (x y : ℕ) → x < a → y < n → test x y ≡ true
  pub before_second : Each (test a) b

-- it is so of each two numbers below n
abbrev pub EachTwo : (ℕ → ℕ → Type 0) → ℕ → Type 0
EachTwo Is n = (a b : ℕ) → a < n → b < n → Is a b

-- among the pairs of numbers below n of which it is not so, a is the least first one, and b the least second one beside it
pub record IsFirstTwo (Is : ℕ → ℕ → Type 0) (n a b : ℕ) : Type 0 where
  pub first_within : a < n
  pub second_within : b < n
  pub fails : Is a b → ⊥
  pub before_first : (x y : ℕ) → x < a → y < n → Is x y
  pub before_second : (y : ℕ) → y < b → Is a y
