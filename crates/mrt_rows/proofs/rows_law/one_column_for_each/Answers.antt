use Rattle.mrt_rows.proofs.OneColumn.{one_column, some_column}
use Rattle.mrt_rows.proofs.rows_law.one_column_for_each.Goals as goal

pub returns-clause-some : goal.returns-clause-some
returns-clause-some c = λ g root w t kept ordered t_within.
    some_column (record { g = g; root = root; w = w; kept = kept; ordered = ordered }) t t_within

pub returns-clause-one : goal.returns-clause-one
returns-clause-one c = λ g root w t column other kept ordered t_within is other_is.
    one_column (record { g = g; root = root; w = w; kept = kept; ordered = ordered }) t t_within column other is other_is
