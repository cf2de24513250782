use Rattle.std.proofs.Common.{ℕ}
use Rattle.mrt_graph.specs.declared.link.Element.TheVariants as elements
use Rattle.mrt_graph.specs.Separates.{Separates}
use Rattle.mrt_plain.proofs.Answering.{accepted, refused}
use Rattle.mrt_plain.proofs.Shared.{contains_read, shared_all, shared_more}
use Rattle.mrt_plain.proofs.sharing.shared_links_separate.Goals as goal

pub loop-e-preserved : goal.loop-e-preserved
loop-e-preserved c =
    shared_more _ c.args.blue.now c.args.red.now c.loop-e.e-index c.e-item.result c.loop-e-test.true c.e-item.is c.loop-e.invariant
    (c.in_ok-link_passes.ensures.0 c.if-not-branch.false)

pub returns-then-not-branch : goal.returns-then-not-branch
returns-then-not-branch c =
    refused c.in_ok-link_passes.field-0 c.if-not-branch.true
    (λ all. c.in_ok-link_passes.ensures.1 (all c.e-item.result (contains_read _ c.loop-e.e-index _ c.loop-e-test.true c.e-item.is)))

pub returns : goal.returns
returns c =
    accepted (shared_all (λ (e : ℕ). Separates c.args.pair.now.links.now (elements.Link e) c.args.pair.now.s c.args.pair.now.t) c.args.blue.now c.args.red.now
    c.loop-e.e-index c.loop-e-test.false c.loop-e.invariant)
