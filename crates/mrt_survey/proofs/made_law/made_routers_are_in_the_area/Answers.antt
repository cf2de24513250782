use Rattle.mrt_survey.proofs.MadeRouters.{made_router_there}
use Rattle.mrt_survey.proofs.made_law.made_routers_are_in_the_area.Goals as goal

pub returns : goal.returns
returns c = made_router_there
