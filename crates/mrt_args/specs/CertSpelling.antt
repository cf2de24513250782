-- The bytes of a certificate.
use Rattle.std.specs.Prelude.{◌≡◌, ℕ, List}
use Rattle.cert_format.specs.CertText.{cert_text}
use Rattle.cert_format.specs.Limits.{IsCertFile}
use Rattle.mrt_graph.specs.declared.cert.CertFile.{CertFile}

-- the bytes spell the certificate file, which is within the limits of its version
pub record IsSpellingOf (bytes : List ℕ) (file : CertFile) : Type 0 where
  pub within : IsCertFile file
  pub spelled : bytes ≡ cert_text file
