use Rattle.std.proofs.Common.{refl}
use Rattle.mrt_answer.proofs.table.push_line.Goals as goal

pub returns-clause-line : goal.returns-clause-line
returns-clause-line c = λ file is.
    let by = c.row_by_column-row.ensures.row file is in
    record {
      part = _;
      is = record {
        column = by.column;
        rows = by.rows;
        primary = by.primary;
        primary_is = by.primary_is;
        line = record { row = c.row_by_column-row.result; row_is = by.row_is; spelled = refl };
      };
      added = c.in_ok-push_row.ensures.added;
    }
