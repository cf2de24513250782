-- The bytes of an answer's text.
use Rattle.std.specs.Prelude.{◌≡◌, ℕ, List, Result, Ok, Err}
use Rattle.cert_format.specs.CertText.{cert_text}
use Rattle.mrt_graph.specs.declared.cert.CertFile.{CertFile}
use Rattle.mrt_rows.specs.CertOf.{IsCertOf}
use Rattle.mrt_exit.specs.Due.{IsDue}
use Rattle.mrt_exit.specs.AnswerSteps.{Step}
use Rattle.mrt_exit.specs.declared.exit.Exit.{Exit}
use Rattle.mrt_answer.specs.declared.text.Text.{Text}
use Rattle.mrt_answer.specs.declared.text.Text.TheVariants.{Line, Bytes, Cert, Found}

-- something holds of the bytes of a text: of a line, of a longer text, of the spelling of a certificate, or of that of the
-- certificate of a graph and its root
abbrev pub HasText : (List ℕ → Type 0) → Text → Type 0
HasText P (Line line) = P line
HasText P (Bytes bytes) = P bytes.items
HasText P (Cert file) = P (cert_text file)
HasText P (Found stream) = (file : CertFile) × IsCertOf stream.graph stream.root file × P (cert_text file)

-- these are the bytes of a text
abbrev pub IsTextOf : Text → List ℕ → Type 0
IsTextOf text bytes = HasText (λ of. bytes ≡ of) text

-- a call answers with the text that comes of a step, or an exit that comes of it, or that there was no memory
abbrev pub IsTextAnswer : Step (List ℕ) → Result Text Exit → Type 0
IsTextAnswer step (Ok text) = HasText (λ bytes. step (Ok bytes)) text
IsTextAnswer step (Err exit) = IsDue (λ due. step (Err due)) exit
