use Rattle.mrt_answer.specs.Forms.{loop_free_in}
use Rattle.mrt_answer.specs.Islands.{area_of}
use Rattle.mrt_answer.proofs.TextSteps.{ends_second, handed_on}
use Rattle.mrt_answer.proofs.loop_free.loop_free.Goals as goal

pub returns-in_err-area : goal.returns-in_err-area
returns-in_err-area c =
    handed_on (area_of c.args.given.now.newest) (λ area. loop_free_in area c.args.router) c.from_residual.result c.in_err-area.field-0.0 c.from_residual.ensures.1
    c.in_err-area.ensures

pub returns : goal.returns
returns c =
    ends_second (area_of c.args.given.now.newest) (λ area. loop_free_in area c.args.router) c.in_ok-area.area c.in_ok-area.ensures
    c.loop_free_in.result c.loop_free_in.ensures
