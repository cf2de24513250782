use Rattle.mrt_rows.proofs.OrderedGraphs.{graph_of}
use Rattle.order_repair.proofs.OneChoice.{plain_by_numbers}
use Rattle.order_repair.proofs.choice.color_for_plain.Goals as goal

pub returns-in-Unordered : goal.returns-in-Unordered
returns-in-Unordered c = λ root w hops.
    record { tests = c.link_tests.result; mean = c.link_tests.ensures root w hops; color_is = c.plain_color.ensures }

-- any other tag
pub returns-in_default : goal.returns-in_default
returns-in_default c = λ root w hops.
    let og = graph_of c.args.view.now.graph.now root w c.args.view.now.directed.now c.requires.source.kept hops.are in
    rw c.plain_color-in_default.ensures (
    plain_by_numbers og c.args.pair.now.source c.args.pair.now.to c.args.pair.now.tag c.in_default.not-Unordered c.args.failed.from c.args.failed.to
    c.requires.source.within c.requires.from c.requires.onto c.numbers.result (c.numbers.ensures root w hops))
