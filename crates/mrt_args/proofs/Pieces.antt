-- A certificate file that is fed to a reader in pieces.
use Rattle.std.proofs.Common.{◌≡◌, ◌∙◌, ◌≤◌, ◌<◌, ◌+◌, ◌-◌, ◌++◌, ℕ, List, [], ◌∷◌, Option, Some, None, Ok, length, refl, sym, ap, subst, inl, inr, append_assoc, append-nil, arith}
use Rattle.std.proofs.lemmas.Grind.{common_steps}
use Rattle.std.specs.Prelude.{IfSome, IsSome}
use Rattle.std.specs.List.{flat_map}
use Rattle.cert_format.specs.Stream.{Progress, fed, fed_all}
use Rattle.mrt_io.specs.Counts.{Rose, last_count}
use Rattle.mrt_io.specs.Holding.{Files, IsFileOf, IsKnownThere, IsTooLong}
use Rattle.mrt_io.specs.Left.{IsLeftOf, IsTakenOff}
use Rattle.mrt_exit.specs.declared.exit.Exit.{Exit}
use Rattle.mrt_exit.specs.declared.exit.Exit.TheVariants as exits
use Rattle.mrt_args.specs.Files.{NamedFile, IsReadAs, IsRefusedBy}
use Rattle.mrt_args.specs.steps.Pieces.{IsFedOn, IsFedSoFar}
use Rattle.mrt_exit.specs.Due.{IsDue}
use Rattle.mrt_args.specs.Reading.{IsDueOrFault}
use Rattle.mrt_args.specs.steps.Reading.{IsStopped}
use Rattle.mrt_args.proofs.Readings.{long_refused}

-- two pieces, one after the other, are fed as one
pub fed_twice : ((pieces : List (List ℕ)) → fed_all (Ok []) pieces ≡ fed (Ok []) (flat_map (λ piece. piece) pieces))
    → (seen piece : List ℕ) → fed (fed (Ok []) seen) piece ≡ fed (Ok []) (seen ++ piece)
fed_twice one seen piece =
    one (seen ∷ piece ∷ []) ∙ ap (λ (xs : List ℕ). fed (Ok []) (seen ++ xs)) (append-nil piece)

-- nothing is taken off at first
none_taken : (left : Option (List ℕ)) → IsTakenOff left [] left
none_taken None = refl
none_taken (Some bytes) = refl

-- bytes are taken off, and then others
taken_on : (before between now : Option (List ℕ)) (seen bytes : List ℕ) → IsTakenOff before seen between
    → IsTakenOff between bytes now → IsTakenOff before (seen ++ bytes) now
taken_on None between now seen bytes one two =
    subst (λ (left : Option (List ℕ)). IsTakenOff left bytes now) one two
taken_on (Some all) None now seen bytes one two = absurd one
taken_on (Some all) (Some rest) None seen bytes one two = absurd two
taken_on (Some all) (Some rest) (Some end) seen bytes one two =
    one ∙ ap (λ (xs : List ℕ). seen ++ xs) two ∙ sym (append_assoc seen bytes end)

-- what was told is told
pub still_told : (before now : Option (List ℕ)) (seen : List ℕ) → IsTakenOff before seen now → IsSome before
    → IsSome now
still_told None now seen taken told = grind (arith, told)
still_told (Some all) None seen taken told = absurd taken
still_told (Some all) (Some rest) seen taken told = refl

-- at first
pub fed_first : (limit : ℕ) (left : Option (List ℕ)) (reader : Progress) → reader ≡ fed (Ok []) []
    → IsFedSoFar limit left left reader (limit + 1)
fed_first limit left reader is = record { seen = []; counted = omega arith; taken = none_taken left; fed_all = is }

-- after one more piece
pub fed_more : (limit : ℕ) (before between now : Option (List ℕ)) (old new : Progress) (room count : ℕ)
    → IsFedSoFar limit before between old room → IsFedOn between old now new count → count ≤ room
    → IsFedSoFar limit before now new (room - count)
fed_more limit before between now old new room count so_far more within = record {
  seen = so_far.seen ++ more.bytes;
  counted = grind (arith, common_steps, so_far.counted, more.counted);
  taken = taken_on before between now so_far.seen more.bytes so_far.taken more.taken;
  fed_all = more.fed_on so_far.seen so_far.fed_all;
}

-- a list without an entry
no_bytes : (bytes : List ℕ) → length bytes ≡ 0 → bytes ≡ []
no_bytes [] is = refl
no_bytes (byte ∷ bytes) is = absurd (omega (arith, is))

-- where nothing is left, the bytes are those of the file
file_of_seen : (held : Option Files) (name : List ℕ) (left between : Option (List ℕ)) (seen : List ℕ)
    → IsLeftOf held name left → IsTakenOff left seen between → IfSome between (λ rest. rest ≡ [])
    → IsFileOf held name seen
file_of_seen None name left between seen whole taken end = tt
file_of_seen (Some files) name None between seen whole taken end = absurd whole
file_of_seen (Some files) name (Some all) None seen whole taken end = absurd taken
file_of_seen (Some files) name (Some all) (Some rest) seen whole taken end =
    whole ∙ ap (λ (xs : List ℕ). Some xs) (taken ∙ ap (λ (xs : List ℕ). seen ++ xs) end ∙ append-nil seen)

-- at the end of the file
pub fed_whole : (held : Option Files) (file : NamedFile) (left between now : Option (List ℕ)) (old new : Progress)
    (room : ℕ) → IsLeftOf held file.name left → IsFedSoFar file.limit left between old room → 0 < room
    → IsFedOn between old now new 0 → IfSome between (λ rest. rest ≡ [])
    → (bytes : List ℕ) × IsReadAs held file bytes × (new ≡ fed (Ok []) bytes)
fed_whole held file left between now old new room whole so_far some more end = (
  so_far.seen,
  (
    file_of_seen held file.name left between so_far.seen whole so_far.taken end,
    omega (arith, so_far.counted, some),
  ),
  more.fed_on so_far.seen so_far.fed_all
      ∙ ap (λ (xs : List ℕ). fed (Ok []) (so_far.seen ++ xs)) (no_bytes more.bytes more.counted)
      ∙ ap (λ (xs : List ℕ). fed (Ok []) xs) (append-nil so_far.seen),
)

-- over the limit
over_limit : (held : Option Files) (name : List ℕ) (limit : ℕ) (left now : Option (List ℕ)) (seen : List ℕ)
    → IsLeftOf held name left → IsTakenOff left seen now → limit < length seen → IsTooLong held name limit
over_limit None name limit left now seen whole taken over = tt
over_limit (Some files) name limit None now seen whole taken over = absurd whole
over_limit (Some files) name limit (Some all) None seen whole taken over = absurd taken
over_limit (Some files) name limit (Some all) (Some rest) seen whole taken over =
    rw (whole, taken) (grind (arith, common_steps, over))

pub fed_too_long : (held : Option Files) (file : NamedFile) (left now : Option (List ℕ)) (reader : Progress) (room : ℕ)
    → IsLeftOf held file.name left → IsFedSoFar file.limit left now reader room → room ≤ 0
    → IsRefusedBy held (file ∷ []) (exits.TooLarge file.what (file.limit + 1))
fed_too_long held file left now reader room whole so_far full =
    long_refused held file
    (over_limit held file.name file.limit left now so_far.seen whole so_far.taken (omega (arith, so_far.counted, full)))

-- where a file is held of which it is told what is left, that is told
pub told_left : (held : Option Files) (name : List ℕ) (left : Option (List ℕ)) → IsLeftOf held name left
    → IsKnownThere held name → IsSome left
told_left None name left whole known = absurd known
told_left (Some files) name None whole known = absurd whole
told_left (Some files) name (Some all) whole known = refl

-- a file that could not be read on is unread
pub stopped_unread : (held : Option Files) (file : NamedFile) (before between now : ℕ) (exit : Exit)
    → before ≤ between → IsStopped file between now exit
    → IsDueOrFault (IsRefusedBy held (file ∷ [])) held (file ∷ []) before now exit
stopped_unread held file before between now (exits.ReadFault word) le said = (inl said.0, omega (arith, le, said.1))
stopped_unread held file before between now exits.NoMemory le said = inr refl
stopped_unread held file before between now exit le said = absurd said

pub stopped_calm : (held : Option Files) (file : NamedFile) (before between now : ℕ) (exit : Exit)
    → before ≤ between → (Rose before now → ⊥) → IsStopped file between now exit → IsDue (IsRefusedBy held (file ∷ [])) exit
stopped_calm held file before between now (exits.ReadFault word) le calm said =
    absurd (calm (omega (arith, le, said.1)))
stopped_calm held file before between now exits.NoMemory le calm said = inr refl
stopped_calm held file before between now exit le calm said = absurd said

-- over a shelf of which it is told what is left, and that then has no fault
pub stopped_healthy : (held : Option Files) (file : NamedFile) (left : Option (List ℕ)) (before between now : ℕ)
    (exit : Exit) → IsLeftOf held file.name left → before ≤ between → before < last_count
    → (IsSome left → now ≡ before) → IsStopped file between now exit → IsDue (IsRefusedBy held (file ∷ [])) exit
stopped_healthy None file left before between now (exits.ReadFault word) whole le below same said =
    inl (inl (ap exits.ReadFault said.0))
stopped_healthy (Some files) file None before between now (exits.ReadFault word) whole le below same said = absurd whole
stopped_healthy (Some files) file (Some all) before between now (exits.ReadFault word) whole le below same said =
    absurd (omega (arith, le, below, same refl, said.1))
stopped_healthy held file left before between now exits.NoMemory whole le below same said = inr refl
stopped_healthy held file left before between now exit whole le below same said = absurd said
