use Rattle.mrt_rows.proofs.RulesHold.{accepted}
use Rattle.mrt_rows.proofs.rows_law.tabled_certificates_are_accepted.Goals as goal

pub returns : goal.returns
returns c = accepted
