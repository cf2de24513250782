use Rattle.std.proofs.Common.{slice_index}
use Rattle.block_spf.proofs.SideBySide.{AreTakenTo}
use Rattle.block_spf.proofs.side.take_over.Given as goal

abbrev pub invariant-loop-j : goal.invariant-loop-j
invariant-loop-j l = AreTakenTo (λ j. slice_index l.left j) l.metric l.link l.initial.costs l.initial.links l.j l.costs l.links
