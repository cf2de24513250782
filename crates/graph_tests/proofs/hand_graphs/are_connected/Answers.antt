use Rattle.std.proofs.Common.{map}
use Rattle.mrt_graph.specs.EndsOfLinks.{pair_of}
use Rattle.graph_tests.proofs.Reached.{all_reached}
use Rattle.graph_tests.proofs.hand_graphs.are_connected.Goals as goal

pub returns : goal.returns
returns c = λ marked.
    all_reached (map pair_of c.args.links.now) c.args.count c.loop.marks.items c.loop.invariant.count
    ((rw c.deref.ensures.value at c.are_marked.ensures) marked) c.loop.invariant.reached
