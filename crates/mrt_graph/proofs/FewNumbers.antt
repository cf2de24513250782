-- A list of different numbers below n has at most n members.
use Rattle.std.proofs.Common.{◌≡◌, ◌<◌, ◌≤◌, ◌+◌, ◌==◌, ℕ, zero, suc, true, false, not, List, [], ◌∷◌, Some, length, filter, slice_get, inl, inr, refl, sym, subst, arith}
use Rattle.std.specs.Prelude.{Contains}
use Rattle.std.proofs.lemmas.Bool.{cases_Bool, ne_eqb}
use Rattle.std.proofs.lemmas.Bool.Decides.{eqb_tells}
use Rattle.mrt_graph.proofs.ListPlaces.{place_of}
use Rattle.mrt_graph.proofs.Members.{Has, contains_cases, contains_from_has, contains_none, has_filter, listed_or_not}
use Rattle.mrt_graph.proofs.Tallies.{length_is_tally, tally, tally_filtered, tally_none}

-- where no two places have v
abbrev pub IsAtOnePlace : List ℕ → ℕ → Type 0
IsAtOnePlace xs v = (j k : ℕ) → slice_get xs j ≡ Some v → slice_get xs k ≡ Some v → j ≡ k

not_later : (x : ℕ) (xs : List ℕ) (v : ℕ) → x ≡ v → IsAtOnePlace (x ∷ xs) v → (j : ℕ) × (slice_get xs j ≡ Some v) → ⊥
not_later x xs v same alone place =
    let first : slice_get (x ∷ xs) 0 ≡ Some v = subst (λ (w : ℕ). slice_get (x ∷ xs) 0 ≡ Some w) same refl in
    let two : 0 ≡ suc place.0 = alone 0 (suc place.0) first place.1 in omega (arith, two)

-- a member that stands at one place is counted once
pub tally_once : (xs : List ℕ) (v : ℕ) → Contains xs v → IsAtOnePlace xs v → tally (λ x. x == v) xs ≡ 1
tally_once [] v c alone = absurd (contains_none v c)
tally_once (x ∷ xs) v c alone = elim (eqb_tells x v) [
  | inl same ↦
      let none : (y : ℕ) → Has xs y → (y == v) ≡ false =
      λ y has. ne_eqb y v (λ is. not_later x xs v same.1 alone (place_of xs v (subst (λ (w : ℕ). Contains xs w) is (contains_from_has xs y has)))) in
      rw same.0 (omega (arith, tally_none (λ y. y == v) xs none))
  | inr other ↦
      let later : Contains xs v = elim (contains_cases x v xs c) [ inl is ↦ absurd (other.1 (sym is)) | inr rest ↦ rest ] in
      rw other.0 (omega (arith, tally_once xs v later (λ j k at_j at_k. omega (arith, alone (suc j) (suc k) at_j at_k))))
]

once_at_most : (xs : List ℕ) (v : ℕ) → IsAtOnePlace xs v → tally (λ x. x == v) xs ≤ 1
once_at_most xs v alone = elim (listed_or_not xs v) [
  | inl listed ↦ omega (arith, tally_once xs v listed alone)
  | inr nowhere ↦ omega (arith, tally_none (λ x. x == v) xs (λ y has. ne_eqb y v (λ is. nowhere (subst (λ (w : ℕ). Contains xs w) is (contains_from_has xs y has)))))
]

with_and_without : (n : ℕ) (xs : List ℕ) → length xs ≡ tally (λ x. x == n) xs + tally (λ x. not (x == n)) xs
with_and_without n [] = refl
with_and_without n (x ∷ xs) = elim (cases_Bool (x == n)) [
  | inl is ↦ rw is (omega (arith, with_and_without n xs))
  | inr other ↦ rw other (omega (arith, with_and_without n xs))
]

few_counted : (n : ℕ) (xs : List ℕ) → ((v : ℕ) → Has xs v → v < n) → ((v : ℕ) → tally (λ x. x == v) xs ≤ 1) → length xs ≤ n
few_counted zero [] below once = omega arith
few_counted zero (x ∷ xs) below once = absurd (omega (arith, below x (inl refl)))
few_counted (suc n) xs below once =
    let rest = filter (λ x. not (x == n)) xs in
    let lower : (v : ℕ) → Has rest v → v < n =
    λ v has. let it = has_filter (λ x. not (x == n)) xs v has in not_top n v (below v it.0) it.1 in
    let few : length rest ≤ n = few_counted n rest lower (λ v. omega (arith, once v, tally_filtered (λ x. x == v) (λ x. not (x == n)) xs)) in
    omega (arith, few, once n, with_and_without n xs, length_is_tally (λ x. not (x == n)) xs)
  where
    not_top : (n v : ℕ) → v < suc n → not (v == n) ≡ true → v < n
    not_top n v below other = elim (eqb_tells v n) [
      | inl same ↦ let fails = rw same.0 at other in absurd (cc)
      | inr differ ↦ omega (arith, below, differ.1)
    ]

pub few_numbers : (n : ℕ) (xs : List ℕ) → ((v : ℕ) → Has xs v → v < n) → ((v : ℕ) → IsAtOnePlace xs v) → length xs ≤ n
few_numbers n xs below alone = few_counted n xs below (λ v. once_at_most xs v (alone v))
