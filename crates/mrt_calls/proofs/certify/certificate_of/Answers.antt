use Rattle.mrt_answer.specs.Forms.{certified}
use Rattle.mrt_answer.proofs.TextSteps.{ends_second}
use Rattle.mrt_calls.specs.Areas.{input_in}
use Rattle.mrt_calls.proofs.certify.certificate_of.Goals as goal

pub returns : goal.returns
returns c =
    ends_second (input_in c.args.area.now) (λ input. certified input c.args.router) c.in_ok-given.given
    c.in_ok-given.ensures c.certify.result c.certify.ensures
