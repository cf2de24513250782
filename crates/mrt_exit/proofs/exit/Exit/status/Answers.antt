use Rattle.std.proofs.Common.{refl}
use Rattle.mrt_exit.proofs.exit.Exit.status.Goals as goal

pub returns-in-BadProfile : goal.returns-in-BadProfile
returns-in-BadProfile c = rw c.in-BadProfile.is refl
