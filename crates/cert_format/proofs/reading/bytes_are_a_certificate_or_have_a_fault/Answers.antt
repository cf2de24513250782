use Rattle.cert_format.proofs.Faultless.{either}
use Rattle.cert_format.proofs.reading.bytes_are_a_certificate_or_have_a_fault.Goals as goal

pub returns : goal.returns
returns c = record { either = either }
