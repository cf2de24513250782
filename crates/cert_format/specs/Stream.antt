-- A stream that comes in pieces.
use Rattle.std.specs.Prelude.{◌++◌, ℕ, Bool, true, false, List, [], ◌∷◌, Option, Some, None, Result, Ok, Err, if◌then◌else◌}
use Rattle.std.specs.Option.{option_and_then, option_map_or}
use Rattle.cert_format.specs.declared.error.CertKind.{CertKind}
use Rattle.cert_format.specs.declared.error.CertKind.TheVariants as kinds
use Rattle.cert_format.specs.FirstFault.{first_fault}

-- the fault may go away with the bytes that follow
abbrev pub is_cut : CertKind → Bool
is_cut kinds.Truncated = true
is_cut kinds.Magic = false
is_cut kinds.Range = false
is_cut kinds.Tag = false
is_cut kinds.Trailing = false
is_cut kinds.Heads = false

-- the fault, unless more bytes may mend it
abbrev pub if_certain : ℕ × CertKind → Option (ℕ × CertKind)
if_certain fault = if is_cut fault.1 then None else Some fault

-- the first fault of a stream that may go on: of a whole field that is not allowed, or of a byte after the last row
abbrev pub certain_fault : List ℕ → Option (ℕ × CertKind)
certain_fault stream = option_and_then if_certain (first_fault stream)

-- what a reader has come to: the stream so far, or the fault that came
abbrev pub Progress : Type 0
Progress = Result (List ℕ) (ℕ × CertKind)

-- this stream, or its certain fault
abbrev pub seen : List ℕ → Progress
seen stream = option_map_or (λ fault. Err fault) (certain_fault stream) (Ok stream)

-- with one more piece of the stream
abbrev pub fed : Progress → List ℕ → Progress
fed (Ok stream) piece = seen (stream ++ piece)
fed (Err fault) piece = Err fault

-- with each of these pieces, one after another
abbrev pub fed_all : Progress → List (List ℕ) → Progress
fed_all progress [] = progress
fed_all progress (piece ∷ pieces) = fed_all (fed progress piece) pieces

-- the first fault where the stream ends there
abbrev pub end_fault : Progress → Option (ℕ × CertKind)
end_fault (Ok stream) = first_fault stream
end_fault (Err fault) = Some fault
