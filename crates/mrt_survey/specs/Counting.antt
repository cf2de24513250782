-- How many numbers have a property.
use Rattle.std.specs.Prelude.{◌≡◌, ◌<◌, ◌↔◌, ℕ, Bool, IsTrue, length}
use Rattle.std.specs.List.{filter, range_with_len}

-- so many of the numbers below n have the property: a test tells it of each of them, and so many pass the test
pub record AreSoMany (HasIt : ℕ → Type 0) (n count : ℕ) : Type 0 where
  pub test : ℕ → Bool
  pub tells : (x : ℕ) → x < n → IsTrue (test x) ↔ HasIt x
  pub passing : count ≡ length (filter test (range_with_len 0 n))
