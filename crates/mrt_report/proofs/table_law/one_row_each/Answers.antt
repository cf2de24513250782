use Rattle.mrt_report.proofs.OneLine.{one_link_hop}
use Rattle.mrt_report.proofs.OneTable.{one_table_row}
use Rattle.mrt_report.proofs.table_law.one_row_each.Goals as goal

pub returns-clause-row : goal.returns-clause-row
returns-clause-row c = λ parts to row other area_kept kept.
    one_table_row c.one_alternate_each.ensures.one parts area_kept kept to row other

pub returns-clause-hop : goal.returns-clause-hop
returns-clause-hop c = one_link_hop
