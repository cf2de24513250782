use Rattle.mrt_report.proofs.OneTable.{one_table}
use Rattle.mrt_report.proofs.SomeTable.{some_table}
use Rattle.mrt_report.proofs.table_law.one_table_each.Goals as goal

pub returns-clause-some : goal.returns-clause-some
returns-clause-some c = some_table c.one_alternate_each.ensures.some

pub returns-clause-one : goal.returns-clause-one
returns-clause-one c = one_table c.one_alternate_each.ensures.one
