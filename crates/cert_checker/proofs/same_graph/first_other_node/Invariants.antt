use Rattle.mrt_graph.specs.Places.{Each}
use Rattle.mrt_graph.specs.SameGraph.{same_node}
use Rattle.cert_checker.proofs.same_graph.first_other_node.Given as goal

abbrev pub invariant-loop-a : goal.invariant-loop-a
invariant-loop-a l = Each (same_node l.g l.c) l.a
