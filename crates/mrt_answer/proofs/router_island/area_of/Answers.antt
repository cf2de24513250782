use Rattle.std.proofs.Common.{subst}
use Rattle.mrt_exit.specs.AnswerSteps.{IsAnswer}
use Rattle.mrt_answer.specs.Input.{Input}
use Rattle.mrt_answer.specs.Islands.{area_of}
use Rattle.mrt_answer.proofs.router_island.area_of.Goals as goal

pub returns : goal.returns
returns c = subst (λ (it : Input). IsAnswer (area_of it.newest) c.area_in.result) c.given.view_is c.area_in.ensures
