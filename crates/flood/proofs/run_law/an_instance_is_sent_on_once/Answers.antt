use Rattle.flood.proofs.RunsAsLists.{once_law}
use Rattle.flood.proofs.run_law.an_instance_is_sent_on_once.Goals as goal

pub returns : goal.returns
returns c = once_law
