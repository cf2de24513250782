use Rattle.cert_format.specs.Limits.{HasNumber}
use Rattle.cert_format.proofs.Lists.{all_more}
use Rattle.cert_format.proofs.limits.within_limits.Goals as goal

pub loop-node-preserved : goal.loop-node-preserved
loop-node-preserved c =
    all_more HasNumber c.args.f.now.cert.nodes c.loop-node.node-index c.node-item.result (rw c.nodes-node-items.ensures.value at c.loop-node-test.true) (rw c.nodes-node-items.ensures.value at c.node-item.is) c.loop-node.invariant c.number_fits.ensures
