use Rattle.mrt_answer.specs.Islands.{island_in}
use Rattle.mrt_answer.specs.Texts.{IsComputed}
use Rattle.mrt_answer.proofs.TextSteps.{ends_second}
use Rattle.mrt_exit.specs.AnswerSteps.{such}
use Rattle.mrt_answer.proofs.certificate.certify.Goals as goal

pub returns : goal.returns
returns c =
    ends_second (island_in c.args.given.now c.args.router) (λ island. such (IsComputed island.graph island.root)) c.in_ok-island.island
    c.in_ok-island.ensures.island c.certify_island.result c.certify_island.ensures
