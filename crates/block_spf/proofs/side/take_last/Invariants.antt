use Rattle.std.proofs.Common.{slice_index}
use Rattle.block_spf.specs.steps.Side.{cost_at}
use Rattle.block_spf.proofs.SideBySide.{AreTakenTo}
use Rattle.block_spf.proofs.side.take_last.Given as goal

abbrev pub invariant-loop-j : goal.invariant-loop-j
invariant-loop-j l = AreTakenTo (λ j. cost_at l.fn.end.to (slice_index l.aims j)) l.fn.end.metric l.fn.end.link l.initial.costs l.initial.links l.j l.costs l.links
