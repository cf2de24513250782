use Rattle.lsdb.proofs.Agreements.{reordered_same}
use Rattle.lsdb.proofs.NewestInEveryOrder.{reordered_newest}
use Rattle.lsdb.proofs.laws.every_order_gives_the_same_newest_instances.Goals as goal

pub returns-clause-held : goal.returns-clause-held
returns-clause-held c = reordered_same

pub returns-clause-newest : goal.returns-clause-newest
returns-clause-newest c = reordered_newest
