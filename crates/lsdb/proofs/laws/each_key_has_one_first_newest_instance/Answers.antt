use Rattle.lsdb.proofs.Entered.{distinct_newest, keys_of_newest}
use Rattle.lsdb.proofs.laws.each_key_has_one_first_newest_instance.Goals as goal

pub returns-clause-keys : goal.returns-clause-keys
returns-clause-keys c = keys_of_newest

pub returns-clause-distinct : goal.returns-clause-distinct
returns-clause-distinct c = distinct_newest
