use Rattle.flood.proofs.RunsAsLists.{same_settled_law, same_newest_law}
use Rattle.flood.proofs.run_law.the_same_deliveries_give_the_same_database.Goals as goal

pub returns : goal.returns
returns c = record { settled = same_settled_law; newest = same_newest_law }
