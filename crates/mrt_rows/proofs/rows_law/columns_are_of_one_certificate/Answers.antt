use Rattle.mrt_rows.proofs.CertOfColumns.{cert_of_columns}
use Rattle.mrt_rows.proofs.rows_law.columns_are_of_one_certificate.Goals as goal

pub returns : goal.returns
returns c = cert_of_columns
