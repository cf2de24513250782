use Rattle.flood.proofs.RunsAsLists.{keys_law, timeless_law}
use Rattle.flood.proofs.run_law.newest_of_the_same_are_the_same.Goals as goal

pub returns : goal.returns
returns c = record { keys = keys_law; timeless = timeless_law }
