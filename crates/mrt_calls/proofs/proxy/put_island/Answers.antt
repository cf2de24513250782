use Rattle.std.proofs.lemmas.Option.{slice_get_within}
use Rattle.mrt_graph.specs.NodeIds.{router as router_node}
use Rattle.mrt_calls.proofs.proxy.put_island.Goals as goal

pub fill-requires-clause-source : goal.fill-requires-clause-source
fill-requires-clause-source c =
    slice_get_within c.args.island.now.graph.ids c.in_ok-source.source (router_node c.args.router) c.in_ok-source.ensures

pub fill-requires-clause-made : goal.fill-requires-clause-made
fill-requires-clause-made c = c.in_ok-columns.ensures.made

pub fill-requires-clause-computed : goal.fill-requires-clause-computed
fill-requires-clause-computed c = c.in_ok-columns.ensures.computed

pub returns-clause-held : goal.returns-clause-held
returns-clause-held c =
    let filled = c.in_ok-fill.ensures.filled in
    (filled.0, record { source = c.in_ok-source.source; source_is = c.in_ok-source.ensures; rows_are = filled.1 }, filled.2)
