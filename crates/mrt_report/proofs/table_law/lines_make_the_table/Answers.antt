use Rattle.mrt_report.proofs.ByColumn.{table_by_columns}
use Rattle.mrt_report.proofs.table_law.lines_make_the_table.Goals as goal

pub returns : goal.returns
returns c = table_by_columns
