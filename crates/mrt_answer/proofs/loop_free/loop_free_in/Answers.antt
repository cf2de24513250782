use Rattle.std.proofs.lemmas.Option.{slice_get_within}
use Rattle.mrt_graph.specs.NodeIds.{router as router_node}
use Rattle.mrt_answer.proofs.Tables.{not_network}
use Rattle.lfa_alt.specs.LfaText.{IsLfaText}
use Rattle.mrt_exit.specs.AnswerSteps.{such}
use Rattle.mrt_answer.specs.Islands.{place_of}
use Rattle.mrt_answer.proofs.TextSteps.{ends_second, handed_on, of_bytes}
use Rattle.mrt_answer.proofs.loop_free.loop_free_in.Goals as goal

pub lfa_text-requires-clause-within : goal.lfa_text-requires-clause-within
lfa_text-requires-clause-within c =
    slice_get_within c.args.area.now.ids c.in_ok-spot.spot (router_node c.args.router) c.in_ok-spot.ensures

pub lfa_text-requires-clause-router : goal.lfa_text-requires-clause-router
lfa_text-requires-clause-router c = not_network c.args.area.now.ids c.in_ok-spot.spot c.args.router c.in_ok-spot.ensures

pub returns-in_err-spot : goal.returns-in_err-spot
returns-in_err-spot c =
    handed_on (place_of c.args.area.now.ids c.args.router) (λ spot. such (IsLfaText c.args.area.now spot)) c.from_residual.result c.in_err-spot.field-0.0 c.from_residual.ensures.1 c.in_err-spot.ensures

pub returns : goal.returns
returns c =
    ends_second (place_of c.args.area.now.ids c.args.router) (λ spot. such (IsLfaText c.args.area.now spot)) c.in_ok-spot.spot c.in_ok-spot.ensures c.bytes_answer.result
    (of_bytes (such (IsLfaText c.args.area.now c.in_ok-spot.spot)) c.lfa_text.result c.bytes_answer.result c.lfa_text.ensures c.bytes_answer.ensures.text c.bytes_answer.ensures.none)
