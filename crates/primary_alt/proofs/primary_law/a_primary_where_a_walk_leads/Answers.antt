use Rattle.primary_alt.proofs.PrimariesLead.{entry_exactly}
use Rattle.primary_alt.proofs.primary_law.a_primary_where_a_walk_leads.Goals as goal

pub returns : goal.returns
returns c = entry_exactly
