use Rattle.fabric.proofs.LossesCaused.{run_caused}
use Rattle.fabric.proofs.loss_law.losses_have_their_causes.Goals as goal

pub returns : goal.returns
returns c = run_caused
