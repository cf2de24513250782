use Rattle.std.proofs.Common.{◌∙◌, slice_index, refl, arith}
use Rattle.std.proofs.lemmas.Grind.{get_or_default_zero}
use Rattle.block_spf.specs.steps.Side.{cost_at}
use Rattle.block_spf.proofs.SideBySide.{one_taken}
use Rattle.block_spf.proofs.side.take_last.Goals as goal

pub loop-j-preserved : goal.loop-j-preserved
loop-j-preserved c =
    let aim = c.index-aims-j.is ∙ get_or_default_zero c.args.aims.now c.loop-j.j c.index-aims-j.result (omega (arith, c.loop-j-test.true, c.requires.one_aim_each)) in
    one_taken (λ i. cost_at c.args.end.to (slice_index c.args.aims.now i)) c.args.end.metric c.args.end.link c.args.costs.now c.args.links.now c.loop-j.j _ c.loop-j.costs c.loop-j.links _ _
    c.loop-j.invariant (rw (c.either-last.ensures, c.eq.ensures, aim) refl)
    c.take_at.ensures
