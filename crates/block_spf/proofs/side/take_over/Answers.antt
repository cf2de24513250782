use Rattle.std.proofs.Common.{slice_index, refl}
use Rattle.block_spf.proofs.SideBySide.{one_taken}
use Rattle.block_spf.proofs.side.take_over.Goals as goal

pub loop-j-preserved : goal.loop-j-preserved
loop-j-preserved c =
    one_taken (λ i. slice_index c.args.left.now i) c.args.metric c.args.link c.args.costs.now c.args.links.now c.loop-j.j _ c.loop-j.costs c.loop-j.links _ _ c.loop-j.invariant refl
    c.take_at.ensures
