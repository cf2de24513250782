use Rattle.mrt_answer.specs.Islands.{island_in}
use Rattle.mrt_answer.specs.Forms.{ordered_in}
use Rattle.mrt_answer.proofs.Tables.{in_own_island}
use Rattle.mrt_answer.proofs.TextSteps.{ends_second, handed_on}
use Rattle.mrt_answer.proofs.order.order.Goals as goal

-- a router is in its own island
pub order_in-requires-clause-inside : goal.order_in-requires-clause-inside
order_in-requires-clause-inside c = let is = c.in_ok-island.ensures.island in in_own_island _ _ _ _ _ _ is.2

pub returns-in_err-island : goal.returns-in_err-island
returns-in_err-island c =
    handed_on (island_in c.args.given.now c.args.router) (λ island. ordered_in island.graph island.root c.args.router) c.from_residual.result c.in_err-island.field-0.0 c.from_residual.ensures.1
    c.in_err-island.ensures.island

pub returns : goal.returns
returns c =
    ends_second (island_in c.args.given.now c.args.router) (λ island. ordered_in island.graph island.root c.args.router) c.in_ok-island.island c.in_ok-island.ensures.island
    c.order_in.result c.order_in.ensures
