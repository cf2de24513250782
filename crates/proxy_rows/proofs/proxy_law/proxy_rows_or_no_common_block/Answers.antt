use Rattle.proxy_rows.proofs.OneAnswer.{never_both}
use Rattle.proxy_rows.proofs.RowsExist.{rows_or_none}
use Rattle.proxy_rows.proofs.proxy_law.proxy_rows_or_no_common_block.Goals as goal

pub returns-clause-either : goal.returns-clause-either
returns-clause-either c = rows_or_none

pub returns-clause-never_both : goal.returns-clause-never_both
returns-clause-never_both c g cert a b entries kept accepted are unrelated = never_both g cert a b are.at kept accepted are.attached unrelated
