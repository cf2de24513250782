use Rattle.primary_alt.proofs.PrimariesLead.{one_entry}
use Rattle.primary_alt.proofs.primary_law.one_primary_each.Goals as goal

pub returns : goal.returns
returns c = one_entry
