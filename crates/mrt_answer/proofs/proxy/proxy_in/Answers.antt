use Rattle.std.proofs.lemmas.Option.{slice_get_within}
use Rattle.mrt_graph.specs.NodeIds.{router as router_node}
use Rattle.mrt_answer.proofs.proxy.proxy_in.Goals as goal

pub proxy_between-requires-clause-first : goal.proxy_between-requires-clause-first
proxy_between-requires-clause-first c =
    slice_get_within c.args.graph.now.ids c.in_ok-a.a (router_node c.args.first) c.in_ok-a.ensures

pub proxy_between-requires-clause-second : goal.proxy_between-requires-clause-second
proxy_between-requires-clause-second c =
    slice_get_within c.args.graph.now.ids c.in_ok-b.b (router_node c.args.second) c.in_ok-b.ensures
