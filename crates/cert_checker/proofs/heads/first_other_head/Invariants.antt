use Rattle.mrt_graph.specs.Places.{Each}
use Rattle.mrt_graph.specs.HeadsAndBlocks.{one_head}
use Rattle.cert_checker.proofs.heads.first_other_head.Given as goal

abbrev pub invariant-loop-b : goal.invariant-loop-b
invariant-loop-b l = Each (one_head l.c l.fn.a) l.b
