use Rattle.std.proofs.Common.{arith}
use Rattle.cert_stream.proofs.OneGraph.{same_all}
use Rattle.cert_stream.proofs.same.has_same_links.Goals as goal

pub returns : goal.returns
returns c = λ so.
    same_all c.loop-e.e c.args.g.now.links c.args.other.now.links c.requires
    (omega (arith, c.loop-e-test.false, c.link_count-e-end.ensures.count)) c.loop-e.invariant
