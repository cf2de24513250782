use Rattle.mrt_graph.specs.Places.{Each}
use Rattle.mrt_graph.specs.HeadsAndBlocks.{link_placed}
use Rattle.cert_checker.proofs.heads.first_misplaced_link.Given as goal

abbrev pub invariant-loop-e : goal.invariant-loop-e
invariant-loop-e l = Each (link_placed l.c) l.e
