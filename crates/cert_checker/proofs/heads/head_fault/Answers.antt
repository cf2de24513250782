use Rattle.std.proofs.Common.{below_more}
use Rattle.mrt_graph.specs.HeadsAndBlocks.{HeadHoldsAt}
use Rattle.cert_checker.proofs.heads.head_fault.Goals as goal

pub loop-a-preserved : goal.loop-a-preserved
loop-a-preserved c =
    below_more (HeadHoldsAt c.args.c.now c.args.root) _ c.loop-a.invariant (rw c.new.ensures at c.in_default.ensures)
