use Rattle.std.proofs.Common.{arith}
use Rattle.std.proofs.lemmas.Grind.{common_steps}
use Rattle.flood.proofs.store.Store.is_settled.Goals as goal

pub loop-held-preserved : goal.loop-held-preserved
loop-held-preserved c = λ lsas. grind (arith, common_steps, c.loop-held.invariant lsas)
