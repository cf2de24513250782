use Rattle.std.proofs.Common.{Err}
use Rattle.mrt_exit.specs.Due.{IsDue}
use Rattle.mrt_exit.proofs.Stepping.{early, late}
use Rattle.mrt_args.proofs.HandedOn.{handed_on}
use Rattle.mrt_answer.specs.Input.{policy}
use Rattle.mrt_answer.specs.Islands.{area_of, island_in, island_of}
use Rattle.mrt_answer.proofs.packets.area_and_island.Goals as goal

pub returns-in_err-area-clause-refused : goal.returns-in_err-area-clause-refused
returns-in_err-area-clause-refused c =
    handed_on c.from_residual.result c.in_err-area.field-0.0 c.from_residual.ensures.1
    (IsDue (λ exit. island_in c.args.given.now c.args.router (Err exit)))
    (early (area_of c.args.given.now.newest) (λ area. island_of (policy c.args.given.now) area c.args.router) c.in_err-area.field-0.0 c.in_err-area.ensures)

pub returns-in_err-island-clause-refused : goal.returns-in_err-island-clause-refused
returns-in_err-island-clause-refused c =
    handed_on c.from_residual-in_err-island.result c.in_err-island.field-0.0 c.from_residual-in_err-island.ensures.1
    (IsDue (λ exit. island_in c.args.given.now c.args.router (Err exit)))
    (late (area_of c.args.given.now.newest) (λ area. island_of (policy c.args.given.now) area c.args.router) c.in_ok-area.area c.in_ok-area.ensures
    (Err c.in_err-island.field-0.0) c.in_err-island.ensures.island)
