-- What holds of the bytes of a text.
use Rattle.std.proofs.Common.{◌≡◌, ℕ, List, Option, Result, Ok, Err, length, refl, ap, subst}
use Rattle.std.specs.Prelude.{IfOk}
use Rattle.cert_format.specs.CertText.{cert_text}
use Rattle.mrt_io.specs.Counts.{Rose}
use Rattle.mrt_io.specs.Writing.{GainedPart}
use Rattle.mrt_io.specs.declared.device.PutError.{PutError}
use Rattle.mrt_io.specs.declared.device.PutError.TheVariants.{Failed}
use Rattle.mrt_exit.specs.declared.exit.Exit.{Exit}
use Rattle.mrt_exit.specs.declared.exit.Exit.TheVariants as exits
use Rattle.mrt_exit.specs.Faults.{put_exit}
use Rattle.mrt_exit.specs.Telling.{IsCutShort}
use Rattle.mrt_answer.specs.declared.text.Text.{Text}
use Rattle.mrt_answer.specs.declared.text.Text.TheVariants.{Line, Bytes, Cert, Found}
use Rattle.mrt_answer.specs.TextBytes.{HasText, IsTextOf}

-- what holds of them, and something that follows from it
pub has_also : (P Q : List ℕ → Type 0) → ((bytes : List ℕ) → P bytes → Q bytes) → (text : Text) → HasText P text → HasText Q text
has_also P Q then (Line line) held = then line held
has_also P Q then (Bytes bytes) held = then bytes.items held
has_also P Q then (Cert file) held = then (cert_text file) held
has_also P Q then (Found stream) held = (held.0, held.1, then (cert_text held.0) held.2)

pub answer_has_also : (P Q : List ℕ → Type 0) → ((bytes : List ℕ) → P bytes → Q bytes) → (answer : Result Text Exit)
    → IfOk answer (HasText P) → IfOk answer (HasText Q)
answer_has_also P Q then (Ok text) held = has_also P Q then text held
answer_has_also P Q then (Err exit) held = tt

-- bytes of a text of which something holds
pub record BytesOf (P : List ℕ → Type 0) (text : Text) : Type 0 where
  pub bytes : List ℕ
  pub are : IsTextOf text bytes
  pub held : P bytes

pub some_bytes : (P : List ℕ → Type 0) (text : Text) → HasText P text → BytesOf P text
some_bytes P (Line line) held = record { bytes = line; are = refl; held = held }
some_bytes P (Bytes bytes) held = record { bytes = bytes.items; are = refl; held = held }
some_bytes P (Cert file) held = record { bytes = cert_text file; are = refl; held = held }
some_bytes P (Found stream) held =
    record { bytes = cert_text held.0; are = (held.0, held.1, refl); held = held.2 }

-- the bytes that an exit tells of, if it does
abbrev taken_in : Exit → ℕ
taken_in (exits.WriteFault taken) = taken
taken_in exit = 0

-- a failed write is told as a text that was cut short
pub cut_short : (healthy_for : ℕ → Type 0) (before now : ℕ) (old new : Option (List ℕ)) (text : List ℕ) (fault : PutError)
    (taken : ℕ) → put_exit fault ≡ exits.WriteFault taken → GainedPart old text new fault → Rose before now
    → (healthy_for (length text) → ⊥) → IsCutShort healthy_for before now old new text taken
cut_short healthy_for before now old new text (Failed count) taken is part rose unhealthy =
    let whole : IsCutShort healthy_for before now old new text count =
    record { fewer = part.0; gained = part.1; rose = rose; unhealthy = unhealthy } in
    subst (IsCutShort healthy_for before now old new text) (ap taken_in is) whole
