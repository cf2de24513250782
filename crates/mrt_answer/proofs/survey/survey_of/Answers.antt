use Rattle.mrt_exit.specs.AnswerSteps.{such}
use Rattle.mrt_answer.specs.Islands.{island_in}
use Rattle.mrt_answer.specs.Surveyed.{IsSummedUp}
use Rattle.mrt_answer.proofs.TextSteps.{ends_second, of_bytes}
use Rattle.mrt_answer.proofs.survey.survey_of.Goals as goal

pub summed_up-requires : goal.summed_up-requires
summed_up-requires c = c.in_ok-island.ensures.root

pub returns : goal.returns
returns c =
    let island = c.in_ok-island.island in
    ends_second (island_in c.args.given.now 1) (λ island. such (IsSummedUp c.args.number island.graph island.root)) island
    c.in_ok-island.ensures.island c.bytes_answer.result
    (of_bytes (such (IsSummedUp c.args.number island.graph island.root)) c.summed_up.result c.bytes_answer.result c.summed_up.ensures
    c.bytes_answer.ensures.text c.bytes_answer.ensures.none)
