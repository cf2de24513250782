use Rattle.mrt_graph.specs.Places.{Each}
use Rattle.mrt_graph.specs.SameGraph.{same_link}
use Rattle.cert_checker.proofs.same_graph.first_other_link.Given as goal

abbrev pub invariant-loop-e : goal.invariant-loop-e
invariant-loop-e l = Each (same_link l.g l.c) l.e
