use Rattle.mrt_rows.proofs.OrderedGraphs.{graph_of}
use Rattle.order_repair.proofs.ChosenBy.{chosen, not_sole}
use Rattle.order_repair.proofs.choice.color_for.Goals as goal

pub returns-in-Node : goal.returns-in-Node
returns-in-Node c = λ root w k h hops pair between.
    let of_node = rw c.in-Node.is at between in
    rw c.in-Node.is (chosen c.args.view.now.graph.now root w c.args.pair.now.source c.args.pair.now.to c.args.pair.now.tag k h _ c.color_for_node.result pair of_node
    (c.color_for_node.ensures root w hops))

pub returns-in-Link : goal.returns-in-Link
returns-in-Link c = λ root w k h hops pair between.
    let of_link = rw c.in-Link.is at between in
    let og = graph_of c.args.view.now.graph.now root w c.args.view.now.directed.now c.requires.source.kept hops.are in
    rw c.in-Link.is (chosen c.args.view.now.graph.now root w c.args.pair.now.source c.args.pair.now.to c.args.pair.now.tag k h _ c.link_color.result pair of_link
    (c.link_color.ensures root w hops (not_sole og c.args.pair.now.source c.args.pair.now.to c.in-Link.failed of_link)))
