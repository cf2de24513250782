use Rattle.std.proofs.Common.{◌≡◌, ◌∙◌, ℕ, true, sym, below_more}
use Rattle.mrt_graph.specs.HeadsAndBlocks.{one_head}
use Rattle.cert_checker.proofs.heads.first_other_head.Goals as goal

pub loop-b-preserved : goal.loop-b-preserved
loop-b-preserved c =
    below_more (λ (b : ℕ). one_head c.args.c.now c.args.a b ≡ true) _ c.loop-b.invariant
    (rw c.new.ensures at (sym c.have_one_head.ensures ∙ c.if-not-have_one_head.false))
