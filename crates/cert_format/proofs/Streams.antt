-- What a stream comes to however it is cut, and how far it is read.
use Rattle.std.proofs.Common.{◌≡◌, ◌∙◌, ◌<◌, ◌-◌, true, false, not, ℕ, List, [], ◌∷◌, ◌++◌, length, drop, length-append, Option, Some, None, Result, Ok, Err, inl, inr, refl, sym, ap, append_assoc, arith}
use Rattle.std.proofs.lemmas.Bool.{cases_Bool, false≢true}
use Rattle.std.proofs.lemmas.List.{append-nil, drop_at}
use Rattle.std.specs.Option.{option_map_or, option_and_then}
use Rattle.std.specs.Prelude.{OnOk, codes}
use Rattle.cert_format.specs.declared.error.CertError.TheVariants as errors
use Rattle.cert_format.specs.declared.error.CertFault.{CertFault}
use Rattle.cert_format.specs.declared.error.CertKind.TheVariants.{Truncated}
use Rattle.cert_format.specs.FirstFault.{first_fault}
use Rattle.cert_format.specs.steps.Reading.{Rest}
use Rattle.cert_format.specs.steps.Steps.{AreParts, AreReading, Parts, ReadsOn, TookParts, has_failed, no_parts, progress_by, text_of}
use Rattle.cert_format.specs.Stream.{Progress, end_fault, fed, is_cut, seen, if_certain, certain_fault, fed_all}
use Rattle.cert_format.proofs.GoesOn.{are_under, faultless}
use Rattle.std.specs.Int.{w32, from_be_bytes}
use Rattle.std.specs.List.{flat_map}
use Rattle.cert_format.specs.declared.error.CertKind.{CertKind}
use Rattle.cert_format.specs.Layout.{cert_form, exactly}
use Rattle.cert_format.proofs.Fields.{field_short}
use Rattle.cert_format.proofs.Forms.{fault_stays, same_fault}

-- ---- faults that are certain

pub certain_is : (stream : List ℕ) (at : ℕ) (kind : CertKind) → first_fault stream ≡ Some (at, kind) → is_cut kind ≡ false → certain_fault stream ≡ Some (at, kind)
certain_is stream at kind e certain = ap (option_and_then if_certain) e ∙ rw certain refl

pub cut_is : (stream : List ℕ) (at : ℕ) (kind : CertKind) → first_fault stream ≡ Some (at, kind) → is_cut kind ≡ true → certain_fault stream ≡ None
cut_is stream at kind e cut = ap (option_and_then if_certain) e ∙ rw cut refl

pub none_is : (stream : List ℕ) → first_fault stream ≡ None → certain_fault stream ≡ None
none_is stream e = ap (option_and_then if_certain) e

from_first : (first : Option (ℕ × CertKind)) (fault : ℕ × CertKind) → option_and_then if_certain first ≡ Some fault → (first ≡ Some fault) × (is_cut fault.1 ≡ false)
from_first None fault e = absurd cc
from_first (Some first) fault e = elim (cases_Bool (is_cut first.1)) [
  | inl cut ↦ let none : None ≡ Some fault = rw cut at e in absurd cc
  | inr certain ↦ let same : Some first ≡ Some fault = rw certain at e in (same, sym (ap (λ (it : ℕ × CertKind). is_cut it.1) (same_fault first fault same)) ∙ certain)
]

pub certain_first : (stream : List ℕ) (fault : ℕ × CertKind) → certain_fault stream ≡ Some fault → (first_fault stream ≡ Some fault) × (is_cut fault.1 ≡ false)
certain_first stream fault e = from_first (first_fault stream) fault e

-- a fault that is certain stays, whatever bytes follow
pub certain_stays : (stream more : List ℕ) (fault : ℕ × CertKind) → certain_fault stream ≡ Some fault → certain_fault (stream ++ more) ≡ Some fault
certain_stays stream more fault e =
    let first = certain_first stream fault e in
    certain_is (stream ++ more) fault.0 fault.1 (fault_stays cert_form 0 stream more fault.0 fault.1 first.0 first.1) first.1

seen_on : (stream piece : List ℕ) (found : Option (ℕ × CertKind)) → certain_fault stream ≡ found
    → fed (option_map_or (λ fault. Err fault) found (Ok stream)) piece ≡ seen (stream ++ piece)
seen_on stream piece None e = refl
seen_on stream piece (Some fault) e =
    let later : certain_fault (stream ++ piece) ≡ Some fault = certain_stays stream piece fault e in
    sym (ap (λ (it : Option (ℕ × CertKind)). option_map_or (λ fault. Err fault) it (Ok (stream ++ piece))) later)

pub fed_seen : (stream piece : List ℕ) → fed (seen stream) piece ≡ seen (stream ++ piece)
fed_seen stream piece = seen_on stream piece (certain_fault stream) refl

-- two pieces are one
pub two_pieces : (progress : Progress) (a b : List ℕ) → fed (fed progress a) b ≡ fed progress (a ++ b)
two_pieces (Ok stream) a b = fed_seen (stream ++ a) b ∙ ap seen (append_assoc stream a b)
two_pieces (Err fault) a b = refl

-- and so are many
pub all_pieces : (stream : List ℕ) (pieces : List (List ℕ)) → fed_all (seen stream) pieces ≡ seen (stream ++ flat_map (λ piece. piece) pieces)
all_pieces stream [] = ap seen (sym (append-nil stream))
all_pieces stream (piece ∷ pieces) =
    ap (λ (it : Progress). fed_all it pieces) (fed_seen stream piece) ∙ all_pieces (stream ++ piece) pieces
    ∙ ap seen (append_assoc stream piece (flat_map (λ it. it) pieces))

seen_ok_by : (stream other : List ℕ) (found : Option (ℕ × CertKind)) → ◌≡◌ {A = Progress} (option_map_or (λ it. Err it) found (Ok stream)) (Ok other) → stream ≡ other
seen_ok_by stream other None e = cc
seen_ok_by stream other (Some fault) e = absurd cc

pub seen_ok : (stream other : List ℕ) → seen stream ≡ Ok other → stream ≡ other
seen_ok stream other e = seen_ok_by stream other (certain_fault stream) e

pub faultless_seen : (stream : List ℕ) → certain_fault stream ≡ None → seen stream ≡ Ok stream
faultless_seen stream e = ap (λ (it : Option (ℕ × CertKind)). option_map_or (λ fault. Err fault) it (Ok stream)) e

pub empty_cut : first_fault [] ≡ Some (0, Truncated)
empty_cut = field_short (exactly w32 (from_be_bytes w32 (codes "MRTC"))) _ 0 [] (omega arith)

pub empty_seen : seen [] ≡ Ok []
empty_seen = faultless_seen [] (cut_is [] 0 Truncated empty_cut refl)

-- from the front of a stream, however it is cut
pub one_stream : (pieces : List (List ℕ)) → fed_all (Ok []) pieces ≡ fed (Ok []) (flat_map (λ piece. piece) pieces)
one_stream pieces = ap (λ (it : Progress). fed_all it pieces) (sym empty_seen) ∙ all_pieces [] pieces

-- a stream without a certain fault is what was fed
pub all_fed : (pieces : List (List ℕ)) (stream : List ℕ) → fed_all (Ok []) pieces ≡ Ok stream → stream ≡ flat_map (λ piece. piece) pieces
all_fed pieces stream e =
    sym (seen_ok (flat_map (λ piece. piece) pieces) stream (sym (one_stream pieces) ∙ e))

same_fault_by : (bytes : List ℕ) (found : Option (ℕ × CertKind)) → certain_fault bytes ≡ found → end_fault (option_map_or (λ fault. Err fault) found (Ok bytes)) ≡ first_fault bytes
same_fault_by bytes None e = refl
same_fault_by bytes (Some fault) e = sym (certain_first bytes fault e).0

-- where the stream ends the fault is its first one
pub end_is_first : (bytes : List ℕ) → end_fault (fed (Ok []) bytes) ≡ first_fault bytes
end_is_first bytes = same_fault_by bytes (certain_fault bytes) refl

-- ---- the parts that were read

stream_is : (old new : Parts) (before after : Rest) → TookParts old before new after → text_of new ++ after.bytes ≡ text_of old ++ before.bytes
stream_is old new before after it =
    ap (λ (t : List ℕ). t ++ after.bytes) it.adds ∙ append_assoc (text_of old) it.text after.bytes ∙ ap (λ (t : List ℕ). text_of old ++ t) (sym it.took.parts)

pub failed_told : (fault : CertFault) → has_failed (Some fault) ≡ true → is_cut fault.kind ≡ false
failed_told fault failed = elim (cases_Bool (is_cut fault.kind)) [ inl cut ↦ absurd (false≢true (sym (ap not cut) ∙ failed)) | inr certain ↦ certain ]

more_told : (fault : CertFault) → has_failed (Some fault) ≡ false → is_cut fault.kind ≡ true
more_told fault more = elim (cases_Bool (is_cut fault.kind)) [ inl cut ↦ cut | inr certain ↦ absurd (false≢true (sym more ∙ ap not certain)) ]

-- ---- a stream that goes on

module _ (fault : Option CertFault) (parts : Parts) (held : List ℕ) where
  pub more_progress : has_failed fault ≡ false → progress_by fault parts held ≡ Ok (text_of parts ++ held)
  more_progress more = go fault more
    where
      go : (o : Option CertFault) → has_failed o ≡ false → progress_by o parts held ≡ Ok (text_of parts ++ held)
      go None more = refl
      go (Some it) more = rw (more_told it more) refl

  pub more_parts : AreReading fault parts held → has_failed fault ≡ false → AreParts parts × (length held < 14)
  more_parts reading more = go fault reading more
    where
      go : (o : Option CertFault) → AreReading o parts held → has_failed o ≡ false → AreParts parts × (length held < 14)
      go None (whole, none) more = (are_under parts whole.0 whole.1.header whole.1.under, omega (arith, ap length none))
      go (Some it) reading more = let cut = reading (more_told it more) in (cut.are, cut.few)

  -- with no more bytes it is the same
  pub stays : AreReading fault parts held → progress_by fault parts held ≡ fed (progress_by fault parts held) []
  stays reading = go fault reading
    where
      seen_same : (stream : List ℕ) → seen stream ≡ Ok stream → Ok stream ≡ seen (stream ++ [])
      seen_same stream e = sym e ∙ ap seen (sym (append-nil stream))

      go : (o : Option CertFault) → AreReading o parts held → progress_by o parts held ≡ fed (progress_by o parts held) []
      go None (whole, none) =
          seen_same (text_of parts ++ held) (faultless_seen (text_of parts ++ held) (none_is (text_of parts ++ held)
          (ap (λ (it : List ℕ). first_fault (text_of parts ++ it)) none ∙ ap first_fault (append-nil (text_of parts)) ∙ faultless whole.0 parts whole.1)))
      go (Some it) reading = elim (cases_Bool (is_cut it.kind)) [
        | inl cut ↦ rw cut (seen_same (text_of parts ++ held) (faultless_seen (text_of parts ++ held) (cut_is (text_of parts ++ held) it.at it.kind (reading cut).first cut)))
        | inr certain ↦ rw certain refl
      ]

  -- a fault stays
  pub failed_stays : has_failed fault ≡ true → (piece : List ℕ) → progress_by fault parts held ≡ fed (progress_by fault parts held) piece
  failed_stays failed piece = go fault failed
    where
      go : (o : Option CertFault) → has_failed o ≡ true → progress_by o parts held ≡ fed (progress_by o parts held) piece
      go None failed = absurd cc
      go (Some it) failed = rw (failed_told it failed) refl

pub if_ok : {E P Q : Type 0} (result : Result Unit E) → (P → Q) → OnOk result P → OnOk result Q
if_ok (Ok x) leads it = leads it
if_ok (Err e) leads it = tt

-- more bytes that are read at once
pub read_at_once : (progress now : Progress) (text held bytes : List ℕ) → progress ≡ Ok (text ++ held) → now ≡ seen (text ++ (held ++ bytes)) → now ≡ fed progress bytes
read_at_once progress now text held bytes is seen_is = seen_is ∙ ap seen (sym (append_assoc text held bytes)) ∙ ap (λ (p : Progress). fed p bytes) (sym is)

pub read_empty : (progress now : Progress) (text held bytes : List ℕ) → progress ≡ Ok (text ++ held) → held ≡ [] → now ≡ seen (text ++ bytes) → now ≡ fed progress bytes
read_empty progress now text held bytes is none seen_is =
    read_at_once progress now text held bytes is (seen_is ∙ ap (λ (it : List ℕ). seen (text ++ (it ++ bytes))) (sym none))

-- one byte, and then the others
pub byte_then : (old start now : Progress) (byte : ℕ) (piece rest all : List ℕ) → piece ≡ byte ∷ rest → now ≡ fed old (byte ∷ []) → fed old piece ≡ fed start all → fed now rest ≡ fed start all
byte_then old start now byte piece rest all e is so_far =
    ap (λ (p : Progress). fed p rest) is ∙ two_pieces old (byte ∷ []) rest ∙ ap (fed old) (sym e) ∙ so_far

-- ---- a stream up to a fault

-- the front of a stream
pub at_front : AreReading (Some (record { at = 0; kind = Truncated })) no_parts []
at_front = λ cut. record { are = (refl, record { links = refl; rows = refl; kin = refl }); few = omega arith; first = empty_cut }

pub whole_seen : (old new : Parts) (before : Rest) → ReadsOn old before new (Ok tt) → Ok (text_of new ++ []) ≡ seen (text_of old ++ before.bytes)
whole_seen old new before reads =
    let text = ap (λ (it : List ℕ). text_of new ++ it) (sym reads.comes.1) ∙ stream_is old new before reads.left reads.took in
    ap (λ (it : List ℕ). Ok it) (append-nil (text_of new)) ∙ sym (faultless_seen (text_of new) (none_is (text_of new) (faultless reads.comes.0.0 new reads.comes.0.1))) ∙ ap seen (sym (append-nil (text_of new)) ∙ text)

module _ (old parts : Parts) (before : Rest) (fault : CertFault) (stops : ReadsOn old before parts (Err (errors.Fault fault.at fault.kind))) where
  same_stream : text_of parts ++ stops.left.bytes ≡ text_of old ++ before.bytes
  same_stream = stream_is old parts before stops.left stops.took

  -- what is left of the bytes
  pub left_is : (size place : ℕ) → size ≡ length (text_of parts) → place ≡ length (text_of old) → drop (size - place) before.bytes ≡ stops.left.bytes
  left_is size place size_is place_is =
      let taken : size - place ≡ length stops.took.text = omega (arith, size_is, place_is, ap length stops.took.adds, length-append (text_of old) stops.took.text) in
      ap (λ (k : ℕ). drop k before.bytes) taken ∙ ap (drop (length stops.took.text)) stops.took.took.parts ∙ drop_at stops.took.text stops.left.bytes (length stops.took.text) refl

  pub cut_seen : (held : List ℕ) → (is_cut fault.kind ≡ true → held ≡ stops.left.bytes) → progress_by (Some fault) parts held ≡ seen (text_of old ++ before.bytes)
  cut_seen held is = elim (cases_Bool (is_cut fault.kind)) [
    | inl cut ↦ rw cut (ap (λ (it : List ℕ). Ok (text_of parts ++ it)) (is cut) ∙ sym (faultless_seen (text_of parts ++ stops.left.bytes) (cut_is (text_of parts ++ stops.left.bytes) fault.at fault.kind stops.comes.first cut)) ∙ ap seen same_stream)
    | inr certain ↦ rw certain (sym (ap (λ (o : Option _). option_map_or (λ it. Err it) o (Ok (text_of old ++ before.bytes)))
        (certain_is (text_of old ++ before.bytes) fault.at fault.kind (ap first_fault (sym same_stream) ∙ stops.comes.first) certain)))
  ]
