use Rattle.std.proofs.Common.{refl}
use Rattle.mrt_exit.proofs.telling.tell.Goals as goal

pub returns-clause-same : goal.returns-clause-same
returns-clause-same g c = refl
