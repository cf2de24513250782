use Rattle.cert_format.specs.CertText.{cert_text}
use Rattle.cert_format.proofs.Streams.{all_fed, end_is_first, faultless_seen, none_is, one_stream}
use Rattle.cert_format.proofs.GoesOn.{no_fault}
use Rattle.cert_format.proofs.reading.any_pieces.Goals as goal

pub returns : goal.returns
returns c = record {
  one = one_stream;
  stream = all_fed;
  fault = end_is_first;
  whole = λ f is. faultless_seen (cert_text f) (none_is (cert_text f) (no_fault f is));
}
