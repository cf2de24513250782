-- How a text is read line by line.
use Rattle.std.specs.Prelude.{◌≡◌, ◌<◌, ◌+◌, ◌-◌, ℕ, List, Some, Result, Ok, Err, fold, length, take, slice_get, if◌then◌else◌}
use Rattle.text_parts.specs.TextLines.{is_passed_over}

-- how a text of lines is read: what is said before the first line; what is said after one more line that is not passed over,
-- or the fault of that line; and the whole that ends where so much is said, or the fault of ending there
pub record TextRule (S W F : Type 0) : Type 0 where
  pub start : S
  pub after : S → List ℕ → Result S F
  pub ends : S → Result W F

-- after one more line: one that is passed over says nothing, and a fault stays
abbrev pub with_line : {S W F : Type 0} → TextRule S W F → Result S F → List ℕ → Result S F
with_line rule (Err fault) line = Err fault
with_line rule (Ok said) line = if is_passed_over line then Ok said else rule.after said line

-- what lines say one after another, or the fault of the first that has one
abbrev pub said_by : {S W F : Type 0} → TextRule S W F → List (List ℕ) → Result S F
said_by rule lines = fold (with_line rule) (Ok rule.start) lines

-- the lines are a whole text, and this is what it says
pub record IsText {S W F : Type 0} (rule : TextRule S W F) (lines : List (List ℕ)) (text : W) : Type 0 where
  pub said : S
  pub say : said_by rule lines ≡ Ok said
  pub whole : rule.ends said ≡ Ok text

-- the line with this number, from 1, is the first that has a fault; or none has one, and it is a fault that the lines end
-- before the one with this number
pub data IsFirstFault {S W F : Type 0} (rule : TextRule S W F) (lines : List (List ℕ)) (number : ℕ) (fault : F) : Type 0 where
  OfLine : (said : S) (line : List ℕ) → 0 < number → said_by rule (take (number - 1) lines) ≡ Ok said
      → slice_get lines (number - 1) ≡ Some line → with_line rule (Ok said) line ≡ Err fault → IsFirstFault rule lines number fault
  OfEnd : (said : S) → number ≡ length lines + 1 → said_by rule lines ≡ Ok said → rule.ends said ≡ Err fault
      → IsFirstFault rule lines number fault
