use Rattle.std.proofs.Common.{refl}
use Rattle.mrt_island.proofs.rooting.level.Goals as goal

pub returns-in-Network-clause-value : goal.returns-in-Network-clause-value
returns-in-Network-clause-value c = rw c.in-Network.is refl
