use Rattle.primary_alt.proofs.NearerHops.{nearer_hop, next_router}
use Rattle.primary_alt.proofs.PrimariesLead.{primary_distance}
use Rattle.primary_alt.proofs.RoutesGiven.{given_by_router, given_primary}
use Rattle.primary_alt.proofs.routes_law.routes_lead_nearer.Goals as goal

pub returns-clause-router : goal.returns-clause-router
returns-clause-router c = λ area graph routes kept made s t primary is.
    next_router area kept s t primary (given_primary area routes made.primaries s t primary is)

pub returns-clause-nearer : goal.returns-clause-nearer
returns-clause-nearer c = λ area graph routes kept made s t primary is.
    let entry = given_primary area routes made.primaries s t primary is in
    let whole = primary_distance area s t primary entry in
    let near = nearer_hop area kept s t whole.0 primary (given_by_router area routes made.primaries s t primary is) entry whole.1 in
    (whole.0, near.0, whole.1, near.1, near.2)
