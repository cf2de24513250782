use Rattle.mrt_cmd.proofs.FormSays.{only_verdict}
use Rattle.mrt_cmd.proofs.run_law.only_a_verdict_says_no.Goals as goal

pub returns : goal.returns
returns c = only_verdict
