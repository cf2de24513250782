use Rattle.std.proofs.Common.{slice_index}
use Rattle.block_spf.specs.steps.Side.{left_onward}
use Rattle.block_spf.proofs.SideBySide.{AreTakenTo}
use Rattle.block_spf.proofs.side.take_onward.Given as goal

abbrev pub invariant-loop-j : goal.invariant-loop-j
invariant-loop-j l = AreTakenTo (λ j. left_onward l.fn.leg.node (slice_index l.aims j) (slice_index l.left j)) l.fn.leg.end.metric l.fn.leg.end.link l.initial.costs l.initial.links l.j l.costs l.links
