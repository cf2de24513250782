use Rattle.cert_format.specs.Limits.{HasNumber}
use Rattle.cert_format.proofs.Lists.{all_more}
use Rattle.cert_stream.proofs.numbers.numbers_fit.Goals as goal

pub loop-node-preserved : goal.loop-node-preserved
loop-node-preserved c =
    all_more HasNumber c.args.nodes.now c.loop-node.node-index c.node-item.result c.loop-node-test.true c.node-item.is c.loop-node.invariant c.number_fits.ensures
