use Rattle.mrt_rows.proofs.OneRow.{one_row}
use Rattle.mrt_rows.proofs.RowsExist.{some_rows}
use Rattle.mrt_rows.proofs.rows_law.one_row_for_each.Goals as goal

pub returns-clause-some : goal.returns-clause-some
returns-clause-some c = λ g root w s kept ordered s_within.
    some_rows (record { g = g; root = root; w = w; kept = kept; ordered = ordered }) s s_within

pub returns-clause-one : goal.returns-clause-one
returns-clause-one c = λ g root w s rows others kept ordered s_within has other_has.
    one_row (record { g = g; root = root; w = w; kept = kept; ordered = ordered }) s s_within rows others has other_has
