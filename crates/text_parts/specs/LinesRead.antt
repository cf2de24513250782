-- The lines of a text that say something, and the first line that is not as it should be.
use Rattle.std.specs.Prelude.{◌≡◌, ◌<◌, ◌≤◌, ◌+◌, ◌-◌, ◌⊎◌, ℕ, true, not, List, length, take}
use Rattle.std.specs.List.{filter, list_all}
use Rattle.text_parts.specs.TextLines.{is_passed_over}

-- the lines that are not passed over
abbrev pub lines_read : List (List ℕ) → List (List ℕ)
lines_read lines = filter (λ line. not (is_passed_over line)) lines

-- lines with which a text may begin, where a text has a first line and may end after each line: all are passed over, or
-- they are a text themselves
abbrev pub IsBeginning : {W : Type 0} → (List (List ℕ) → W → Type 0) → List (List ℕ) → Type 0
IsBeginning {W = W} Is lines = (list_all is_passed_over lines ≡ true) ⊎ ((text : W) × Is lines text)

-- the line with this number, from 1, is the first that is not as it should be: a text may begin with the lines before it, and
-- not with these and it; or the lines end before it, and all of them are passed over, so that there is no first line
pub data IsFirstWrong {W : Type 0} (Is : List (List ℕ) → W → Type 0) (lines : List (List ℕ)) (number : ℕ) : Type 0 where
  Wrong : 0 < number → number ≤ length lines → IsBeginning Is (take (number - 1) lines)
      → (IsBeginning Is (take number lines) → ⊥) → IsFirstWrong Is lines number
  NoFirst : number ≡ length lines + 1 → list_all is_passed_over lines ≡ true → IsFirstWrong Is lines number
