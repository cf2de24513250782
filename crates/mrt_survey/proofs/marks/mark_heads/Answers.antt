use Rattle.std.proofs.Common.{List, map, arith}
use Rattle.std.proofs.lemmas.List.{at_drop_all}
use Rattle.mrt_graph.specs.declared.cert.CertNode.{CertNode}
use Rattle.mrt_survey.proofs.Marked.{so_far_ends}
use Rattle.mrt_survey.proofs.marks.mark_heads.Goals as goal

pub returns-clause-marked : goal.returns-clause-marked
returns-clause-marked c =
    so_far_ends _ _ _ _
    (at_drop_all (λ (nodes : List CertNode). map (λ node. node.head) nodes) c.args.nodes.now c.loop-node.node-index (omega (arith, c.loop-node-test.false)))
    c.loop-node.invariant.so_far
