use Rattle.lsdb.proofs.SameInstances.{same_or_differ}
use Rattle.lsdb.proofs.laws.instances_differ_in_max_age_alone.Goals as goal

pub returns : goal.returns
returns c = same_or_differ
