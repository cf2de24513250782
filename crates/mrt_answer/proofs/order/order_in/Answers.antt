use Rattle.std.proofs.lemmas.Option.{slice_get_within}
use Rattle.mrt_graph.specs.NodeIds.{router as router_node}
use Rattle.order_repair.specs.OrderText.{IsTextFrom}
use Rattle.mrt_exit.specs.AnswerSteps.{such}
use Rattle.mrt_answer.specs.Islands.{own_place}
use Rattle.mrt_answer.proofs.TextSteps.{ends_second, handed_on, of_bytes}
use Rattle.mrt_answer.proofs.order.order_in.Goals as goal

pub order_of-requires-clause-source : goal.order_of-requires-clause-source
order_of-requires-clause-source c =
    slice_get_within c.args.graph.now.ids c.in_ok-source.source (router_node c.args.router) c.in_ok-source.ensures

pub returns-in_err-source : goal.returns-in_err-source
returns-in_err-source c =
    handed_on (own_place c.args.graph.now.ids c.args.router) (λ source. such (IsTextFrom c.args.graph.now c.args.root source)) c.from_residual.result c.in_err-source.field-0.0 c.from_residual.ensures.1 c.in_err-source.ensures

pub returns : goal.returns
returns c =
    ends_second (own_place c.args.graph.now.ids c.args.router) (λ source. such (IsTextFrom c.args.graph.now c.args.root source)) c.in_ok-source.source c.in_ok-source.ensures c.bytes_answer.result
    (of_bytes (such (IsTextFrom c.args.graph.now c.args.root c.in_ok-source.source)) c.order_of.result c.bytes_answer.result c.order_of.ensures c.bytes_answer.ensures.text c.bytes_answer.ensures.none)
