use Rattle.mrt_graph.specs.Places.{Each}
use Rattle.mrt_graph.specs.HeadsAndBlocks.{lone_block}
use Rattle.cert_checker.proofs.block_links.first_lone_fault.Given as goal

abbrev pub invariant-loop-a : goal.invariant-loop-a
invariant-loop-a l = Each (lone_block l.c l.root) l.a
