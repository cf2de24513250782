use Rattle.mrt_exit.proofs.Stepping.{handed_on, late}
use Rattle.mrt_answer.specs.Input.{policy}
use Rattle.mrt_answer.specs.Islands.{area_of, island_of}
use Rattle.mrt_answer.proofs.router_island.island_in.Goals as goal

pub returns-in_err-area-clause-island : goal.returns-in_err-area-clause-island
returns-in_err-area-clause-island c =
    handed_on (area_of c.args.given.now.newest) (λ area. island_of (policy c.args.given.now) area c.args.router) c.from_residual.result c.in_err-area.field-0.0 c.from_residual.ensures.1
    c.in_err-area.ensures

pub returns-clause-island : goal.returns-clause-island
returns-clause-island c =
    late (area_of c.args.given.now.newest) (λ area. island_of (policy c.args.given.now) area c.args.router) c.in_ok-area.area c.in_ok-area.ensures
    c.island_of.result c.island_of.ensures.island
