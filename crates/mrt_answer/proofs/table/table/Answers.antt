use Rattle.std.proofs.Common.{subst}
use Rattle.area_graph.specs.Parts.{AreaParts}
use Rattle.mrt_answer.specs.Forms.{table_in}
use Rattle.mrt_answer.specs.Input.{area}
use Rattle.mrt_answer.specs.Islands.{island_in}
use Rattle.mrt_answer.specs.TextBytes.{IsTextAnswer}
use Rattle.mrt_answer.proofs.Tables.{in_own_island, root_is_router}
use Rattle.mrt_answer.proofs.TextSteps.{ends_second}
use Rattle.mrt_answer.proofs.table.table.Goals as goal

pub table_in-requires-clause-fits : goal.table_in-requires-clause-fits
table_in-requires-clause-fits c = c.in_ok-net.ensures.fits

pub table_in-requires-clause-root : goal.table_in-requires-clause-root
table_in-requires-clause-root c = c.in_ok-net.ensures.root

pub table_in-requires-clause-root_router : goal.table_in-requires-clause-root_router
table_in-requires-clause-root_router c = let is = c.in_ok-net.ensures.island in root_is_router _ _ _ _ _ _ is.2

-- a router is in its own island
pub table_in-requires-clause-inside : goal.table_in-requires-clause-inside
table_in-requires-clause-inside c = let is = c.in_ok-net.ensures.island in in_own_island _ _ _ _ _ _ is.2

pub returns : goal.returns
returns c =
    let island = c.in_ok-net.net.island in
    ends_second (island_in c.args.given.now c.args.router) (λ island. table_in (area c.args.given.now) island c.args.router) island
    c.in_ok-net.ensures.island c.table_in.result
    (subst (λ (a : AreaParts). IsTextAnswer (table_in a island c.args.router) c.table_in.result) c.in_ok-net.ensures.area c.table_in.ensures)
