use Rattle.lsdb.proofs.Settling.{no_conflict_settled, settled_no_conflict}
use Rattle.lsdb.proofs.laws.refuses_exactly_where_not_settled.Goals as goal

pub returns-clause-none : goal.returns-clause-none
returns-clause-none c = settled_no_conflict

pub returns-clause-settled : goal.returns-clause-settled
returns-clause-settled c = no_conflict_settled
