use Rattle.std.proofs.Common.{arith}
use Rattle.cert_stream.proofs.OneGraph.{same_all}
use Rattle.cert_stream.proofs.same.has_same_nodes.Goals as goal

pub returns-clause-ids : goal.returns-clause-ids
returns-clause-ids c = λ so.
    same_all c.loop-n.n c.args.g.now.ids c.args.other.now.ids c.requires
    (omega (arith, c.loop-n-test.false, c.node_count-n-end.ensures.count)) c.loop-n.invariant.ids

pub returns-clause-ends : goal.returns-clause-ends
returns-clause-ends c = λ so.
    let lists = c.node_count-n-end.ensures.kept.a_list_each in
    let others = c.node_count-count.ensures.kept.a_list_each in
    same_all c.loop-n.n c.args.g.now.ends c.args.other.now.ends (omega (arith, lists, others, c.requires))
    (omega (arith, c.loop-n-test.false, c.node_count-n-end.ensures.count, lists)) c.loop-n.invariant.ends
