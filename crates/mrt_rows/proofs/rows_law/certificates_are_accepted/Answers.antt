use Rattle.mrt_rows.proofs.CertAccepted.{cert_accepted}
use Rattle.mrt_rows.proofs.rows_law.certificates_are_accepted.Goals as goal

pub returns : goal.returns
returns c = cert_accepted
