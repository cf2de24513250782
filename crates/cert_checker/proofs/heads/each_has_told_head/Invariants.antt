use Rattle.cert_checker.specs.steps.KeyTable.{has_number}
use Rattle.mrt_graph.specs.CertFields.{block_of, head_of}
use Rattle.mrt_graph.specs.Places.{Each}
use Rattle.cert_checker.proofs.heads.each_has_told_head.Given as goal

abbrev pub invariant-loop-a : goal.invariant-loop-a
invariant-loop-a l = Each (λ a. has_number l.heads (block_of l.c a) (head_of l.c a)) l.a
