use Rattle.std.proofs.Common.{ℕ}
use Rattle.mrt_graph.specs.declared.link.Element.TheVariants as elements
use Rattle.mrt_graph.specs.Separates.{IsNeitherEnd, Separates}
use Rattle.mrt_plain.proofs.Answering.{accepted, refused}
use Rattle.mrt_plain.proofs.Shared.{contains_read, shared_all, shared_more}
use Rattle.mrt_plain.proofs.sharing.shared_nodes_separate.Goals as goal

pub loop-v-preserved : goal.loop-v-preserved
loop-v-preserved c =
    shared_more _ c.args.blue.now c.args.red.now c.loop-v.v-index c.v-item.result c.loop-v-test.true c.v-item.is c.loop-v.invariant
    (c.in_ok-node_passes.ensures.0 c.if-not-branch.false)

pub returns-then-not-branch : goal.returns-then-not-branch
returns-then-not-branch c =
    refused c.in_ok-node_passes.field-0 c.if-not-branch.true
    (λ all. c.in_ok-node_passes.ensures.1 (all c.v-item.result (contains_read _ c.loop-v.v-index _ c.loop-v-test.true c.v-item.is)))

pub returns : goal.returns
returns c =
    accepted (shared_all (λ (v : ℕ). IsNeitherEnd (elements.Node v) c.args.pair.now.s c.args.pair.now.t → Separates c.args.pair.now.links.now (elements.Node v) c.args.pair.now.s c.args.pair.now.t)
    c.args.blue.now c.args.red.now c.loop-v.v-index c.loop-v-test.false c.loop-v.invariant)
