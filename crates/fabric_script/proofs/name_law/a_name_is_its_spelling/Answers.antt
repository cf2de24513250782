use Rattle.fabric_script.proofs.SpellingsTold.{failure_names, node_names}
use Rattle.fabric_script.proofs.name_law.a_name_is_its_spelling.Goals as goal

pub returns : goal.returns
returns c = record { node = node_names; failure = failure_names }
