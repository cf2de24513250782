-- Bytes are LSAs, or have a first fault, in one way.
use Rattle.std.proofs.Common.{◌≡◌, ℕ, ◌+◌, List, [], ◌∷◌, ◌++◌, length, drop, Result, Ok, refl, sym, ap, subst, ◌∙◌, append_assoc, arith}
use Rattle.std.proofs.lemmas.List.{append-nil, drop_at, length-append, length-drop, length-take, take-append-drop}
use Rattle.ospf_lsa.specs.declared.error.LsaKind.{LsaKind}
use Rattle.ospf_lsa.specs.declared.lsa.Lsa.{Lsa}
use Rattle.ospf_lsa.specs.Faults.{HasFault, HasFirstFault}
use Rattle.ospf_lsa.specs.LsaText.{lsa_length, lsa_text, lsas_text}
use Rattle.ospf_lsa.specs.Lsas.{AreLsas, IsLsa}
use Rattle.ospf_lsa.specs.Outcome.{IsFirstLsaFault}
use Rattle.ospf_lsa.specs.steps.Reading.{record_in}
use Rattle.ospf_lsa.proofs.FaultlessAtFront.{no_fault_at_front}
use Rattle.ospf_lsa.proofs.KindsInOrder.{one_first_kind}
use Rattle.ospf_lsa.proofs.Records.{record_read}

pub length_lsa : (lsa : Lsa) → length (lsa_text lsa) ≡ lsa_length lsa
length_lsa lsa = omega arith

-- no LSA without a fault stands at the front of these bytes
abbrev pub HasNoneAtFront : List ℕ → Type 0
HasNoneAtFront bytes = (lsa : Lsa) (more : List ℕ) → IsLsa lsa → bytes ≡ lsa_text lsa ++ more → ⊥

pub none_in_nothing : HasNoneAtFront []
none_in_nothing lsa more is e = omega (arith, ap length e, length-append (lsa_text lsa) more, length_lsa lsa)

pub none_where_fault : (kind : LsaKind) (bytes : List ℕ) → HasFirstFault kind bytes → HasNoneAtFront bytes
none_where_fault kind bytes first lsa more is e =
    no_fault_at_front lsa more is kind (subst (λ (t : List ℕ). HasFault kind t) e first.fault)

-- two LSAs at the front of the same bytes are one
record AreOne (lsa other : Lsa) (rest tail : List ℕ) : Type 0 where
  same : lsa ≡ other
  later : rest ≡ tail

one_at_front : (lsa other : Lsa) (rest tail : List ℕ) → IsLsa lsa → IsLsa other → lsa.at ≡ other.at
    → lsa_text lsa ++ rest ≡ lsa_text other ++ tail → AreOne lsa other rest tail
one_at_front lsa other rest tail is is' placed text =
    let there : record_in lsa.at (lsa_text lsa ++ rest) ≡ Ok (other, lsa_length other) =
    ap (λ (t : List ℕ). record_in lsa.at t) text ∙ ap (λ (k : ℕ). record_in k (lsa_text other ++ tail)) placed
    ∙ record_read other tail is' in
    let same : (lsa, lsa_length lsa) ≡ (other, lsa_length other) =
    same_read (lsa, lsa_length lsa) (other, lsa_length other) (record_in lsa.at (lsa_text lsa ++ rest))
    (record_read lsa rest is) there in
    let len : lsa_length lsa ≡ lsa_length other = ap (λ (p : Lsa × ℕ). p.1) same in
    record {
      same = ap (λ (p : Lsa × ℕ). p.0) same;
      later = sym (drop_at (lsa_text lsa) rest (lsa_length lsa) (length_lsa lsa)) ∙ ap (drop (lsa_length lsa)) text
          ∙ drop_at (lsa_text other) tail (lsa_length lsa) (length_lsa other ∙ sym len);
    }
  where
    same_read : (p q : Lsa × ℕ) (r : Result (Lsa × ℕ) LsaKind) → r ≡ Ok p → r ≡ Ok q → p ≡ q
    same_read p q r e f = cc

-- LSAs that the same bytes begin with, where none stands after them, are the same
pub record AreTheSame (lsas others : List Lsa) (rest tail : List ℕ) : Type 0 where
  pub same : lsas ≡ others
  pub later : rest ≡ tail

pub one_list_at : (at : ℕ) (lsas others : List Lsa) (rest tail : List ℕ) → AreLsas at lsas → AreLsas at others
    → HasNoneAtFront rest → HasNoneAtFront tail
    → lsas_text lsas ++ rest ≡ lsas_text others ++ tail → AreTheSame lsas others rest tail
one_list_at at [] [] rest tail are are' none none' text = record { same = refl; later = text }
one_list_at at [] (other ∷ others) rest tail are are' none none' text =
    absurd (none other (lsas_text others ++ tail) are'.1 (text ∙ append_assoc (lsa_text other) (lsas_text others) tail))
one_list_at at (lsa ∷ lsas) [] rest tail are are' none none' text =
    absurd (none' lsa (lsas_text lsas ++ rest) are.1 (sym text ∙ append_assoc (lsa_text lsa) (lsas_text lsas) rest))
one_list_at at (lsa ∷ lsas) (other ∷ others) rest tail are are' none none' text =
    let here = one_at_front lsa other (lsas_text lsas ++ rest) (lsas_text others ++ tail) are.1 are'.1
    (are.0 ∙ sym are'.0)
    (sym (append_assoc (lsa_text lsa) (lsas_text lsas) rest) ∙ text
    ∙ append_assoc (lsa_text other) (lsas_text others) tail) in
    let placed : AreLsas (at + lsa_length lsa) others = subst (λ (l : Lsa). AreLsas (at + lsa_length l) others)
    (sym here.same) are'.2 in
    let there = one_list_at (at + lsa_length lsa) lsas others rest tail are.2 placed none none' here.later in
    record {
      same = ap (λ (l : Lsa). l ∷ lsas) here.same
          ∙ ap (λ (ls : List Lsa). other ∷ ls) there.same;
      later = there.later;
    }

-- where a first fault is, and what is before it
record IsStop (bytes : List ℕ) (at : ℕ) (before : List Lsa) : Type 0 where
  placed : length (lsas_text before) ≡ at
  text : bytes ≡ lsas_text before ++ drop at bytes
  none : HasNoneAtFront (drop at bytes)

stop_of : (bytes : List ℕ) (at : ℕ) (kind : LsaKind) → (first : IsFirstLsaFault bytes at kind)
    → IsStop bytes at first.before
stop_of bytes at kind first = record {
  placed = ap length (sym first.spelled) ∙ omega (arith, length-take at bytes, first.more);
  text = sym (take-append-drop at bytes) ∙ ap (λ (t : List ℕ). t ++ drop at bytes) first.spelled;
  none = none_where_fault kind (drop at bytes) first.fault;
}

whole : (lsas : List Lsa) (bytes : List ℕ) → bytes ≡ lsas_text lsas → lsas_text lsas ++ [] ≡ bytes
whole lsas bytes text = append-nil (lsas_text lsas) ∙ sym text

pub one_list : (bytes : List ℕ) (lsas others : List Lsa) → AreLsas 0 lsas → bytes ≡ lsas_text lsas → AreLsas 0 others
    → bytes ≡ lsas_text others → lsas ≡ others
one_list bytes lsas others are text are' text' =
    (one_list_at 0 lsas others [] [] are are' none_in_nothing none_in_nothing
    (whole lsas bytes text ∙ sym (whole others bytes text'))).same

pub never_both : (bytes : List ℕ) (lsas : List Lsa) (at : ℕ) (kind : LsaKind) → AreLsas 0 lsas
    → bytes ≡ lsas_text lsas → IsFirstLsaFault bytes at kind → ⊥
never_both bytes lsas at kind are text first =
    let stop = stop_of bytes at kind first in
    let same = one_list_at 0 lsas first.before [] (drop at bytes) are first.faultless none_in_nothing stop.none
    (whole lsas bytes text ∙ stop.text) in
    omega (arith, ap length same.later, length-drop at bytes, first.more)

pub one_fault : (bytes : List ℕ) (at place : ℕ) (kind other : LsaKind) → IsFirstLsaFault bytes at kind
    → IsFirstLsaFault bytes place other → (at ≡ place) × (kind ≡ other)
one_fault bytes at place kind other first second =
    let stop = stop_of bytes at kind first in
    let stop' = stop_of bytes place other second in
    let same = one_list_at 0 first.before second.before (drop at bytes)
    (drop place bytes) first.faultless second.faultless stop.none stop'.none (sym stop.text ∙ stop'.text) in (
      sym stop.placed ∙ ap (λ (ls : List Lsa). length (lsas_text ls)) same.same ∙ stop'.placed,
      one_first_kind (drop at bytes) kind other first.fault
          (subst (λ (t : List ℕ). HasFirstFault other t) (sym same.later) second.fault),
    )
