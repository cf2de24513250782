use Rattle.lsdb.proofs.Agreements.{same_agree, settled_agree}
use Rattle.lsdb.proofs.NewestInEveryOrder.{same_newest}
use Rattle.lsdb.proofs.Orders.{swapped}
use Rattle.lsdb.proofs.Reordered.{keys_reordered, newest_reordered}
use Rattle.lsdb.proofs.SameInstances.{settled_instances}
use Rattle.lsdb.proofs.laws.the_same_lsas_give_the_same_database.Goals as goal

pub returns-clause-newest : goal.returns-clause-newest
returns-clause-newest c = same_newest

pub returns-clause-keys : goal.returns-clause-keys
returns-clause-keys c = λ lsas others same. keys_reordered lsas others (same_agree lsas others same)

pub returns-clause-settled : goal.returns-clause-settled
returns-clause-settled c = λ lsas others same.
    let agree = same_agree lsas others same in
    (settled_agree lsas others agree, settled_agree others lsas (swapped lsas others agree))

pub returns-clause-listed : goal.returns-clause-listed
returns-clause-listed c = λ lsas others same. newest_reordered lsas others (same_agree lsas others same)

pub returns-clause-instances : goal.returns-clause-instances
returns-clause-instances c = settled_instances
