use Rattle.std.proofs.Common.{subst}
use Rattle.std.specs.Prelude.{IfOk}
use Rattle.area_graph.specs.Parts.{AreaParts}
use Rattle.mrt_exit.specs.AnswerSteps.{such}
use Rattle.mrt_answer.specs.Input.{area}
use Rattle.mrt_answer.specs.Islands.{island_in}
use Rattle.mrt_answer.specs.Texts.{IsTraceIn}
use Rattle.mrt_answer.proofs.TextSteps.{ends_second, of_bytes}
use Rattle.mrt_answer.proofs.trace.trace.Goals as goal

pub trace_in-requires-clause-fits : goal.trace_in-requires-clause-fits
trace_in-requires-clause-fits c = c.in_ok-net.ensures.fits

pub trace_in-requires-clause-root : goal.trace_in-requires-clause-root
trace_in-requires-clause-root c = c.in_ok-net.ensures.root

pub returns : goal.returns
returns c =
    let island = c.in_ok-net.net.island in
    ends_second (island_in c.args.given.now c.args.trace.now.from) (λ island. such (IsTraceIn (area c.args.given.now) island c.args.trace.now)) island
    c.in_ok-net.ensures.island c.bytes_answer.result
    (of_bytes (such (IsTraceIn (area c.args.given.now) island c.args.trace.now)) c.trace_in.result c.bytes_answer.result
    (subst (λ (a : AreaParts). IfOk c.trace_in.result (λ text. IsTraceIn a island c.args.trace.now text.items)) c.in_ok-net.ensures.area c.trace_in.ensures)
    c.bytes_answer.ensures.text c.bytes_answer.ensures.none)
