use Rattle.mrt_survey.proofs.MadeConnected.{island_whole}
use Rattle.mrt_survey.proofs.made_law.made_islands_hold_all_routers.Goals as goal

pub returns : goal.returns
returns c = island_whole
