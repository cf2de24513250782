-- Lines that are put at the end of a text.
use Rattle.std.specs.Prelude.{◌≡◌, ◌++◌, ℕ, List}
use Rattle.std.specs.List.{AllZip, concat}
use Rattle.mrt_report.specs.TableText.{others}

-- a text gains such a line on each of the first nodes but one
pub record AddsLines (IsLineOn : ℕ → List ℕ → Type 0) (source count : ℕ) (before after : List ℕ) : Type 0 where
  pub lines : List (List ℕ)
  pub are : AllZip IsLineOn (others count source) lines
  pub added : after ≡ before ++ concat lines
