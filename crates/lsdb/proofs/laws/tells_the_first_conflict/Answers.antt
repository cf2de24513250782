use Rattle.lsdb.proofs.Conflicting.{first_of_list}
use Rattle.lsdb.proofs.Placed.{only_first}
use Rattle.lsdb.proofs.laws.tells_the_first_conflict.Goals as goal

pub returns-clause-told : goal.returns-clause-told
returns-clause-told c = first_of_list

pub returns-clause-only : goal.returns-clause-only
returns-clause-only c = only_first
