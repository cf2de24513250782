-- What reading a certificate file comes to.
use Rattle.std.specs.Prelude.{◌≡◌, ◌⊎◌, Result, Err}
use Rattle.mrt_graph.specs.declared.cert.CertFile.{CertFile}
use Rattle.cert_format.specs.declared.error.CertError.{CertError}
use Rattle.cert_format.specs.declared.error.CertError.TheVariants as errors

-- it is the expected outcome, or there was no memory
abbrev pub OrNoMemory : Result CertFile CertError → Result CertFile CertError → Type 0
OrNoMemory outcome expected = (outcome ≡ expected) ⊎ (outcome ≡ Err errors.NoMemory)
