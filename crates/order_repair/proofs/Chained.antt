-- Numbers of one name, each before those after it.
use Rattle.std.proofs.Common.{◌≡◌, ◌≢◌, ◌<◌, ◌≤◌, ◌+◌, ◌∙◌, ℕ, zero, suc, List, Some, length, set, slice_get, replicate, inl, inr, sym, ap, subst, arith}
use Rattle.std.proofs.lemmas.Bool.{cases_eq}
use Rattle.std.proofs.lemmas.List.{length-replicate, length-set}
use Rattle.std.proofs.lemmas.Option.{same_Some, slice_get_within}
use Rattle.mrt_graph.proofs.ListPlaces.{set_elsewhere, set_there}
use Rattle.order_repair.specs.steps.Blocks.{AreChains, IsNext}

-- a number of the name is the next one from itself on, and so is the count
at_once : (names : List ℕ) (name at : ℕ) → at ≤ length names → (at < length names → slice_get names at ≡ Some name) → IsNext names name at at
at_once names name at within named =
    record { onward = omega arith; within = within; named = named; none_before = λ k low high. absurd (omega (arith, low, high)) }

-- a number of another name is passed over
passed : (names : List ℕ) (name at own next : ℕ) → slice_get names at ≡ Some own → name ≢ own → IsNext names name (at + 1) next → IsNext names name at next
passed names name at own next is other later = record {
  onward = omega (arith, later.onward);
  within = later.within;
  named = later.named;
  none_before = λ k low high named. elim (cases_eq k at) [
    | inl same ↦ other (same_Some name own (sym named ∙ ap (λ (i : ℕ). slice_get names i) same ∙ is))
    | inr apart ↦ later.none_before k (omega (arith, low, apart)) high named
  ];
}

-- the next one after a next one
pub after : (names firsts nexts : List ℕ) (name from k next : ℕ) → AreChains names 0 firsts nexts → IsNext names name from k → k < length names → slice_get nexts k ≡ Some next
    → IsNext names name (k + 1) next
after names firsts nexts name from k next are is low read = are.nexts_are k name next (omega arith) (is.named low) read

replicated : (n x y k : ℕ) → slice_get (replicate n x) k ≡ Some y → x ≡ y
replicated zero x y k is = cc
replicated (suc n) x y zero is = same_Some x y is
replicated (suc n) x y (suc k) is = replicated n x y k is

-- at first there is none
pub no_chain : (names : List ℕ) (count : ℕ) → AreChains names (length names) (replicate count (length names)) (replicate (length names) (length names))
no_chain names count = record {
  one_next_each = length-replicate (length names) (length names);
  firsts_are = λ name first read. subst (λ (n : ℕ). IsNext names name (length names) n) (replicated count (length names) first name read) (at_once names name (length names) (omega arith) (λ low. absurd (omega (arith, low))));
  nexts_are = λ k name next low named read. absurd (omega (arith, low, slice_get_within names k name named));
}

-- one number more
pub chained_more : (names firsts nexts : List ℕ) (at own next : ℕ) → slice_get names at ≡ Some own → slice_get firsts own ≡ Some next → AreChains names (at + 1) firsts nexts
    → AreChains names at (set firsts own at) (set nexts at next)
chained_more names firsts nexts at own next is before are = record {
  one_next_each = length-set nexts at next ∙ are.one_next_each;
  firsts_are = λ name first read. elim (cases_eq name own) [
    | inl same ↦
        let there : slice_get (set firsts own at) own ≡ Some at = set_there firsts own at (slice_get_within firsts own next before) in
        let first_is : at ≡ first = same_Some at first (sym there ∙ subst (λ (n : ℕ). slice_get (set firsts own at) n ≡ Some first) same read) in
        subst (λ (n : ℕ). IsNext names name at n) first_is (subst (λ (n : ℕ). IsNext names n at at) (sym same) (at_once names own at (omega (arith, slice_get_within names at own is)) (λ low. is)))
    | inr other ↦ passed names name at own first is other (are.firsts_are name first (sym (set_elsewhere firsts own name at other) ∙ read))
  ];
  nexts_are = λ k name after low named read. elim (cases_eq k at) [
    | inl same ↦
        let name_is : own ≡ name = same_Some own name (sym is ∙ subst (λ (i : ℕ). slice_get names i ≡ Some name) same named) in
        let low' : at < length nexts = omega (arith, slice_get_within names at own is, are.one_next_each) in
        let after_is : next ≡ after =
        same_Some next after (sym (set_there nexts at next low') ∙ subst (λ (i : ℕ). slice_get (set nexts at next) i ≡ Some after) same read) in
        subst (λ (i : ℕ). IsNext names name (i + 1) after) (sym same)
        (subst (λ (n : ℕ). IsNext names n (at + 1) after) name_is
        (subst (λ (n : ℕ). IsNext names own (at + 1) n) after_is (are.firsts_are own next before)))
    | inr other ↦ are.nexts_are k name after (omega (arith, low, other)) named (sym (set_elsewhere nexts at k next other) ∙ read)
  ];
}
