use Rattle.mrt_answer.specs.Forms.{proxied_in}
use Rattle.mrt_answer.specs.Islands.{island_in}
use Rattle.mrt_answer.proofs.TextSteps.{ends_second, handed_on}
use Rattle.mrt_answer.proofs.proxy.proxy.Goals as goal

pub returns-in_err-island : goal.returns-in_err-island
returns-in_err-island c =
    handed_on (island_in c.args.given.now c.args.router) (λ island. proxied_in island.graph island.root c.args.first c.args.second) c.from_residual.result c.in_err-island.field-0.0 c.from_residual.ensures.1
    c.in_err-island.ensures.island

pub returns : goal.returns
returns c =
    ends_second (island_in c.args.given.now c.args.router) (λ island. proxied_in island.graph island.root c.args.first c.args.second) c.in_ok-island.island c.in_ok-island.ensures.island
    c.proxy_in.result c.proxy_in.ensures
