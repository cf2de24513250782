-- What is put at the end of a text.
use Rattle.std.specs.Prelude.{◌≡◌, ◌++◌, ℕ, List}

-- a text gains a part that is one of these
pub record Adds (IsPart : List ℕ → Type 0) (before after : List ℕ) : Type 0 where
  pub part : List ℕ
  pub is : IsPart part
  pub added : after ≡ before ++ part
