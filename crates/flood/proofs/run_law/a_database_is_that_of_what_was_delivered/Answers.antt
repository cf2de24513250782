use Rattle.flood.proofs.DeliveredFit.{bodies_delivered, ids_delivered}
use Rattle.flood.proofs.RunsAsLists.{database_law, entries_law, newest_law, settled_law, numbers_law, kept_law}
use Rattle.flood.proofs.run_law.a_database_is_that_of_what_was_delivered.Goals as goal

pub returns : goal.returns
returns c = record {
  database = database_law;
  entries = entries_law;
  newest = newest_law;
  settled = settled_law;
  numbers = numbers_law;
  kept = kept_law;
  bodies = bodies_delivered;
  ids = ids_delivered;
}
