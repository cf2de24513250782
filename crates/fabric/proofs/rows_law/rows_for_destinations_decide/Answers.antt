use Rattle.fabric.proofs.SameRuns.{same_run}
use Rattle.fabric.proofs.rows_law.rows_for_destinations_decide.Goals as goal

pub returns : goal.returns
returns c = same_run
