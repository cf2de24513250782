use Rattle.cert_stream.proofs.OneGraph.{AreSameBefore}
use Rattle.cert_stream.proofs.same.has_same_nodes.Given as goal

abbrev pub invariant-loop-n : goal.invariant-loop-n
invariant-loop-n l = record {
  ids : AreSameBefore l.n l.g.ids l.other.ids;
  ends : AreSameBefore l.n l.g.ends l.other.ends;
}
