use Rattle.std.proofs.Common.{◌<◌, ℕ}
use Rattle.mrt_graph.specs.HeadsAndBlocks.{HeadHoldsAt}
use Rattle.cert_checker.proofs.heads.head_fault.Given as goal

abbrev pub invariant-loop-a : goal.invariant-loop-a
invariant-loop-a l = (x : ℕ) → x < l.a → HeadHoldsAt l.c l.root x
