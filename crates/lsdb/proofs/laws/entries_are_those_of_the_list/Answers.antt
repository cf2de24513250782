use Rattle.lsdb.proofs.Lists.{all_of_list}
use Rattle.lsdb.proofs.laws.entries_are_those_of_the_list.Goals as goal

pub returns : goal.returns
returns c = all_of_list
