use Rattle.std.proofs.Common.{ℕ}
use Rattle.primary_alt.specs.RouteLists.{primary_at}
use Rattle.primary_alt.proofs.HopsArrive.{hops_arrive}
use Rattle.primary_alt.proofs.routes_law.routes_reach_their_destinations.Goals as goal

pub returns : goal.returns
returns c = λ area graph routes kept made s t router has walk w.
    hops_arrive area kept t (λ (x : ℕ). primary_at routes x t) (λ x is. made.primaries.routers x t is has) s router walk w
