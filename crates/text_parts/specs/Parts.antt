-- A text of one part after another.
use Rattle.std.specs.Prelude.{◌≡◌, ◌++◌, ℕ, zero, suc, List, []}

-- parts, one for each of the first so many numbers
abbrev pub AreParts : (ℕ → List ℕ → Type 0) → ℕ → List ℕ → Type 0
AreParts IsPart zero text = text ≡ []
AreParts IsPart (suc n) text =
    (parts : List ℕ) × (part : List ℕ) × AreParts IsPart n parts × IsPart n part × (text ≡ parts ++ part)

-- a first line, and such parts
pub record IsHeaded (IsHead : List ℕ → Type 0) (IsPart : ℕ → List ℕ → Type 0) (n : ℕ) (text : List ℕ) : Type 0 where
  pub head : List ℕ
  pub head_is : IsHead head
  pub lines : List ℕ
  pub lines_are : AreParts IsPart n lines
  pub spelled : text ≡ head ++ lines
