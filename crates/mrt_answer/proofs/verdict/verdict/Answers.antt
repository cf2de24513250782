use Rattle.mrt_answer.specs.Forms.{said_yes}
use Rattle.mrt_answer.specs.Islands.{island_in}
use Rattle.mrt_answer.proofs.TextSteps.{ends_second, handed_on}
use Rattle.mrt_answer.proofs.verdict.verdict.Goals as goal

pub returns-in_err-island : goal.returns-in_err-island
returns-in_err-island c =
    handed_on (island_in c.args.given.now c.args.file.now.root) (λ island. said_yes island.graph island.root c.args.file.now) c.from_residual.result c.in_err-island.field-0.0 c.from_residual.ensures.1
    c.in_err-island.ensures.island

pub returns : goal.returns
returns c =
    ends_second (island_in c.args.given.now c.args.file.now.root) (λ island. said_yes island.graph island.root c.args.file.now) c.in_ok-island.island c.in_ok-island.ensures.island
    c.verdict_on.result c.verdict_on.ensures
