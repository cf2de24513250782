use Rattle.primary_alt.proofs.Repairs.{none_exactly}
use Rattle.primary_alt.proofs.repair_law.no_alternate_for_ends_and_what_separates.Goals as goal

pub returns : goal.returns
returns c = none_exactly
