-- Rows that are put into a buffer, one after another.
use Rattle.std.specs.Prelude.{ℕ, List, map}
use Rattle.std.specs.List.{AllZip}
use Rattle.mrt_report.specs.TableText.{others}
use Rattle.mrt_report.specs.declared.row.TableRow.{TableRow}
use Rattle.mrt_calls.specs.steps.Putting.{IsHeldIn}
use Rattle.mrt_calls.specs.RowNumbers.{row_in}
use Rattle.mrt_calls.specs.declared.row.MrtRow.{MrtRow}

-- a buffer was given such a row on each of the first nodes but one, in numbers, as far as there is room
pub record IsFilled (IsRowOn : ℕ → TableRow → Type 0) (source n : ℕ) (buffer : List MrtRow) (count : ℕ) : Type 0 where
  pub lines : List TableRow
  pub are : AllZip IsRowOn (others n source) lines
  pub held : IsHeldIn buffer count (map row_in lines)
