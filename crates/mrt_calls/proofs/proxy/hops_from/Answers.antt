use Rattle.std.proofs.lemmas.Option.{slice_get_within}
use Rattle.mrt_graph.specs.NodeIds.{router as router_node}
use Rattle.mrt_calls.proofs.proxy.hops_from.Goals as goal

pub hops_at-requires-clause-first : goal.hops_at-requires-clause-first
hops_at-requires-clause-first c =
    slice_get_within c.args.at.now.graph.now.ids c.args.a (router_node c.args.pair.now.first) c.requires.first

pub hops_at-requires-clause-second : goal.hops_at-requires-clause-second
hops_at-requires-clause-second c =
    slice_get_within c.args.at.now.graph.now.ids c.in_ok-b.b (router_node c.args.pair.now.second) c.in_ok-b.ensures
