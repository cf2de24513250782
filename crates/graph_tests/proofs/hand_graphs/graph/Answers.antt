use Rattle.std.proofs.Common.{IsTrue}
use Rattle.graph_tests.proofs.HandGraphs.{hand_parts}
use Rattle.graph_tests.proofs.hand_graphs.graph.Goals as goal

pub new-requires : goal.new-requires
new-requires c =
    let make : IsTrue c.in_ok-make_graph.field-0 = c.if-not-branch.false in
    let made = rw c.deref.ensures.value at c.in_ok-make_graph.ensures in
    hand_parts c.args.count c.args.routers c.in_ok-ids.ids.items c.args.links.items (made.some make) c.in_ok-ids.ensures.count c.in_ok-ids.ensures.ids
    (made.within make) (made.routers make) (made.ascending make) (made.connected make)
