use Rattle.cert_stream.proofs.OneGraph.{AreSameBefore}
use Rattle.cert_stream.proofs.same.has_same_links.Given as goal

abbrev pub invariant-loop-e : goal.invariant-loop-e
invariant-loop-e l = AreSameBefore l.e l.g.links l.other.links
