use Rattle.cert_stream.proofs.Fitting.{fits}
use Rattle.cert_stream.proofs.cert_law.certificates_fit_their_files.Goals as goal

pub returns : goal.returns
returns c = fits
