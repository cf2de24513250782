use Rattle.flood.proofs.RunsAsLists.{packets_law, databases_law}
use Rattle.flood.proofs.run_law.nothing_is_made_up.Goals as goal

pub returns : goal.returns
returns c = record { packets = packets_law; databases = databases_law }
