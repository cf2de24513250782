-- Whole files.
use Rattle.std.proofs.Common.{◌≡◌, ◌<◌, ◌≤◌, ℕ, zero, suc, ◌+◌, List, [], ◌∷◌, ◌++◌, ◌⊎◌, length, take, drop, Result, Ok, Err, inl, inr, refl, sym, ap, subst, ◌∙◌, append_assoc, arith}
use Rattle.std.specs.List.{AllByRecursion}
use Rattle.std.proofs.lemmas.Bool.{cases_lt}
use Rattle.std.proofs.lemmas.List.{append-nil, drop_all, drop-drop, take_at, length-append}
use Rattle.std.proofs.lemmas.List.Concat.{flat_map-append}
use Rattle.ospf_lsa.specs.declared.error.LsaKind.{LsaKind}
use Rattle.ospf_lsa.specs.declared.error.LsaError.{LsaError}
use Rattle.ospf_lsa.specs.declared.error.LsaError.TheVariants.{Fault, NoMemory}
use Rattle.ospf_lsa.specs.declared.lsa.Lsa.{Lsa}
use Rattle.ospf_lsa.specs.LsaText.{lsa_length, lsa_text, lsas_text}
use Rattle.ospf_lsa.specs.Lsas.{AreLsas, IsByte, IsLsa}
use Rattle.ospf_lsa.specs.Outcome.{IsFirstLsaFault}
use Rattle.ospf_lsa.specs.steps.Reading.{record_in, Answers}
use Rattle.ospf_lsa.proofs.FirstFaultsTold.{told_is_first}
use Rattle.mrt_graph.proofs.Bytes.{IsBytes, bytes_after}
use Rattle.ospf_lsa.proofs.Numbers.{bytes_of_all}
use Rattle.ospf_lsa.proofs.OneReading.{length_lsa, never_both, one_fault}
use Rattle.ospf_lsa.proofs.Records.{record_spelled}

-- the LSAs in the bytes before this place were read
pub record IsReadTo (bytes : List ℕ) (read : List Lsa) (at : ℕ) : Type 0 where
  pub so : AreLsas 0 read
  pub spelled : bytes ≡ lsas_text read ++ drop at bytes
  pub placed : length (lsas_text read) ≡ at

pub read_none : (bytes : List ℕ) → IsReadTo bytes [] 0
read_none bytes = record { so = tt; spelled = refl; placed = refl }

one_more_kept : (read : List Lsa) (lsa : Lsa) (start : ℕ) → AreLsas start read
    → lsa.at ≡ start + length (lsas_text read) → IsLsa lsa → AreLsas start (read ++ lsa ∷ [])
one_more_kept [] lsa start are placed kept = (omega (arith, placed), kept, tt)
one_more_kept (first ∷ read) lsa start are placed kept = (
  are.0,
  are.1,
  one_more_kept read lsa (start + lsa_length first) are.2
      (omega (arith, placed, length-append (lsa_text first) (lsas_text read), length_lsa first)) kept,
)

-- one more LSA
pub read_more : (bytes : List ℕ) (read read' : List Lsa) (at : ℕ) (x : Lsa × ℕ) → IsBytes bytes
    → IsReadTo bytes read at → record_in at (drop at bytes) ≡ Ok x → read' ≡ read ++ x.0 ∷ []
    → IsReadTo bytes read' (at + x.1)
read_more bytes read read' at x are so_far found grown =
    let here = record_spelled at (drop at bytes) x found (bytes_after at bytes are) in
    let behind : drop x.1 (drop at bytes) ≡ drop (at + x.1) bytes = drop-drop x.1 at bytes in
    let texts : lsas_text (read ++ x.0 ∷ []) ≡ lsas_text read ++ lsa_text x.0 =
    flat_map-append lsa_text read (x.0 ∷ []) ∙ ap (λ (t : List ℕ). lsas_text read ++ t) (append-nil (lsa_text x.0)) in
    subst (λ (r : List Lsa). IsReadTo bytes r (at + x.1)) (sym grown) (record {
      so = one_more_kept read x.0 0 so_far.so (omega (arith, here.placed, so_far.placed)) here.kept;
      spelled = so_far.spelled ∙ ap (λ (t : List ℕ). lsas_text read ++ t) here.text
          ∙ sym (append_assoc (lsas_text read) (lsa_text x.0) (drop x.1 (drop at bytes)))
          ∙ ap (λ (t : List ℕ). t ++ drop x.1 (drop at bytes)) (sym texts)
          ∙ ap (λ (t : List ℕ). lsas_text (read ++ x.0 ∷ []) ++ t) behind;
      placed = ap length texts
          ∙ omega (arith, length-append (lsas_text read) (lsa_text x.0), length_lsa x.0, here.len, so_far.placed);
    })

-- where nothing is left, the bytes are these LSAs
pub all_read : (bytes : List ℕ) (read : List Lsa) (at : ℕ) → length bytes ≤ at → IsReadTo bytes read at
    → bytes ≡ lsas_text read
all_read bytes read at past so_far =
    so_far.spelled ∙ ap (λ (t : List ℕ). lsas_text read ++ t) (drop_all at bytes past) ∙ append-nil (lsas_text read)

-- where the next record has this fault, it is the first one
pub first_found : (bytes : List ℕ) (read : List Lsa) (at : ℕ) (kind : LsaKind) → IsBytes bytes → at < length bytes
    → IsReadTo bytes read at → record_in at (drop at bytes) ≡ Err kind → IsFirstLsaFault bytes at kind
first_found bytes read at kind are lt so_far fault = record {
  before = read;
  faultless = so_far.so;
  spelled = ap (take at) so_far.spelled ∙ take_at (lsas_text read) (drop at bytes) at so_far.placed;
  more = lt;
  fault = told_is_first at (drop at bytes) kind fault (bytes_after at bytes are);
}

-- these bytes are LSAs, or have a first fault
abbrev pub AreEither : List ℕ → Type 0
AreEither bytes = ((lsas : List Lsa) × AreLsas 0 lsas × (bytes ≡ lsas_text lsas))
    ⊎ ((at : ℕ) × (kind : LsaKind) × IsFirstLsaFault bytes at kind)

-- with so many steps
either_from : (steps : ℕ) (bytes : List ℕ) (read : List Lsa) (at : ℕ) → IsBytes bytes → length bytes ≤ at + steps
    → IsReadTo bytes read at → AreEither bytes
either_from zero bytes read at are enough so_far =
    inl (read, so_far.so, all_read bytes read at (omega (arith, enough)) so_far)
either_from (suc steps) bytes read at are enough so_far = elim (cases_lt at (length bytes)) [
  | inl more ↦
      by_record bytes read at (λ read' at' later. either_from steps bytes read' at' are later) are enough so_far more
      (record_in at (drop at bytes)) refl
  | inr past ↦ inl (read, so_far.so, all_read bytes read at past so_far)
]
  where
    by_record : (bytes : List ℕ) (read : List Lsa) (at : ℕ)
        → ((read' : List Lsa) (at' : ℕ) → length bytes ≤ at' + steps → IsReadTo bytes read' at' → AreEither bytes)
        → IsBytes bytes → length bytes ≤ at + suc steps → IsReadTo bytes read at → at < length bytes
        → (r : Result (Lsa × ℕ) LsaKind) → record_in at (drop at bytes) ≡ r → AreEither bytes
    by_record bytes read at go are enough so_far more (Err kind) told =
        inr (at, kind, first_found bytes read at kind are more so_far told)
    by_record bytes read at go are enough so_far more (Ok x) found =
        let here = record_spelled at (drop at bytes) x found (bytes_after at bytes are) in
        go (read ++ x.0 ∷ []) (at + x.1) (omega (arith, enough, here.len))
        (read_more bytes read (read ++ x.0 ∷ []) at x are so_far found refl)

pub either_of : (bytes : List ℕ) → AllByRecursion IsByte bytes → AreEither bytes
either_of bytes all = either_from (length bytes) bytes [] 0 (bytes_of_all bytes all) (omega arith) (read_none bytes)

-- the fault that is told is the first one
pub told_first : (bytes front : List ℕ) (read : List Lsa) (at : ℕ) (e : LsaError) → IsBytes bytes → at < length bytes
    → IsReadTo bytes read at → front ≡ drop at bytes → Answers at (record_in at front) (Err e)
    → (place : ℕ) (kind : LsaKind) → e ≡ Fault place kind → IsFirstLsaFault bytes place kind
told_first bytes front read at NoMemory are lt so_far is answer place kind e = absurd cc
told_first bytes front read at (Fault there told) are lt so_far is answer place kind e =
    let first = first_found bytes read at told are lt so_far (ap (record_in at) (sym is) ∙ answer.1) in
    let same_place : there ≡ place = cc in
    let same_told : told ≡ kind = cc in
    subst (λ (k : ℕ). IsFirstLsaFault bytes k kind) (sym answer.0 ∙ same_place)
    (subst (λ (t : LsaKind). IsFirstLsaFault bytes at t) same_told first)

-- where a first fault is told, the bytes are no LSAs
pub none_read : (bytes : List ℕ) (e : LsaError)
    → ((place : ℕ) (kind : LsaKind) → e ≡ Fault place kind → IsFirstLsaFault bytes place kind)
    → (all : List Lsa) → AreLsas 0 all → bytes ≡ lsas_text all → e ≡ NoMemory
none_read bytes NoMemory told all so text = refl
none_read bytes (Fault place kind) told all so text =
    absurd (never_both bytes all place kind so text (told place kind refl))

-- the first fault is told, or there was no memory
pub first_told : (bytes : List ℕ) (e : LsaError)
    → ((place : ℕ) (kind : LsaKind) → e ≡ Fault place kind → IsFirstLsaFault bytes place kind)
    → (place : ℕ) (kind : LsaKind) → IsFirstLsaFault bytes place kind → (e ≡ Fault place kind) ⊎ (e ≡ NoMemory)
first_told bytes NoMemory told place kind first = inr refl
first_told bytes (Fault there found) told place kind first =
    let same = one_fault bytes there place found kind (told there found refl) first in
    inl (ap (λ (k : ℕ). Fault k found) same.0 ∙ ap (Fault place) same.1)
