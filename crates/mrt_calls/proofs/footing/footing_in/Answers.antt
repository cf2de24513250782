use Rattle.std.proofs.Common.{refl}
use Rattle.std.proofs.lemmas.Option.{slice_get_within}
use Rattle.mrt_graph.specs.NodeIds.{router as router_node}
use Rattle.mrt_answer.proofs.Tables.{not_network}
use Rattle.mrt_calls.proofs.footing.footing_in.Goals as goal

pub primaries-requires-clause-within : goal.primaries-requires-clause-within
primaries-requires-clause-within c =
    slice_get_within c.args.net.area.ids c.in_ok-spot.spot (router_node c.args.router) c.in_ok-spot.ensures

pub primaries-requires-clause-router : goal.primaries-requires-clause-router
primaries-requires-clause-router c = not_network c.args.net.area.ids c.in_ok-spot.spot c.args.router c.in_ok-spot.ensures

pub returns-clause-footing : goal.returns-clause-footing
returns-clause-footing c = (
  refl,
  record {
    source_is = c.in_ok-source.ensures;
    spot = c.in_ok-spot.spot;
    spot_is = c.in_ok-spot.ensures;
    primaries_are = c.in_ok-primaries.ensures;
  },
)
