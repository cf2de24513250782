use Rattle.std.proofs.Common.{subst}
use Rattle.std.specs.Prelude.{IfOk}
use Rattle.area_graph.specs.Parts.{AreaParts}
use Rattle.mrt_exit.specs.AnswerSteps.{such}
use Rattle.mrt_answer.specs.Input.{area}
use Rattle.mrt_answer.specs.Islands.{island_in}
use Rattle.mrt_answer.specs.Texts.{IsScriptIn}
use Rattle.mrt_answer.proofs.TextSteps.{ends_second, of_bytes}
use Rattle.mrt_answer.proofs.events.run_of.Goals as goal

pub run_in-requires-clause-fits : goal.run_in-requires-clause-fits
run_in-requires-clause-fits c = c.in_ok-net.ensures.fits

pub run_in-requires-clause-root : goal.run_in-requires-clause-root
run_in-requires-clause-root c = c.in_ok-net.ensures.root

pub returns : goal.returns
returns c =
    let island = c.in_ok-net.net.island in
    ends_second (island_in c.args.given.now c.args.script.now.router) (λ island. such (IsScriptIn (area c.args.given.now) island c.args.script.now)) island
    c.in_ok-net.ensures.island c.bytes_answer.result
    (of_bytes (such (IsScriptIn (area c.args.given.now) island c.args.script.now)) c.run_in.result c.bytes_answer.result
    (subst (λ (a : AreaParts). IfOk c.run_in.result (λ text. IsScriptIn a island c.args.script.now text.items)) c.in_ok-net.ensures.area c.run_in.ensures)
    c.bytes_answer.ensures.text c.bytes_answer.ensures.none)
