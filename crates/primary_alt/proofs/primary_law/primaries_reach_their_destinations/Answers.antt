use Rattle.primary_alt.proofs.HopsArrive.{hops_arrive}
use Rattle.primary_alt.proofs.primary_law.primaries_reach_their_destinations.Goals as goal

pub returns : goal.returns
returns c = hops_arrive
