use Rattle.primary_alt.proofs.NearerHops.{next_router, nearer_hop}
use Rattle.primary_alt.proofs.primary_law.primaries_lead_nearer.Goals as goal

pub returns : goal.returns
returns c = record { router = next_router; nearer = nearer_hop }
