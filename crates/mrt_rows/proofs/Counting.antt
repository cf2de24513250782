-- How many members of a list pass a test, from what stands at its places.
use Rattle.std.proofs.Common.{◌≡◌, ◌≢◌, ◌≤◌, ℕ, zero, suc, Bool, true, List, [], ◌∷◌, Some, filter, length, slice_get, refl, sym, subst, inl, inr, arith}
use Rattle.std.proofs.lemmas.Bool.{and_from, cases_Bool}
use Rattle.std.proofs.lemmas.Option.{same_Some}
use Rattle.std.specs.List.{list_all}

-- none passes
pub none_of : {X : Type 0} (test : X → Bool) (xs : List X)
    → ((i : ℕ) (x : X) → slice_get xs i ≡ Some x → test x ≡ true → ⊥) → length (filter test xs) ≡ 0
none_of test [] never = refl
none_of test (y ∷ ys) never = elim (cases_Bool (test y)) [
  | inl passes ↦ absurd (never 0 y refl passes)
  | inr fails ↦ rw fails (none_of test ys (λ i x is passes. never (suc i) x is passes))
]

-- one at least
pub some_of : {X : Type 0} (test : X → Bool) (xs : List X) (i : ℕ) (x : X) → slice_get xs i ≡ Some x → test x ≡ true
    → 1 ≤ length (filter test xs)
some_of test [] i x is passes = cc
some_of test (y ∷ ys) zero x is passes =
    let holds : test y ≡ true = subst (λ z. test z ≡ true) (sym (same_Some y x is)) passes in
    rw holds (omega arith)
some_of test (y ∷ ys) (suc i) x is passes = elim (cases_Bool (test y)) [
  | inl holds ↦ rw holds (omega arith)
  | inr fails ↦ rw fails (some_of test ys i x is passes)
]

-- just one: it passes, and what passes stands at its place
pub one_of : {X : Type 0} (test : X → Bool) (xs : List X) (i : ℕ) (x : X) → slice_get xs i ≡ Some x → test x ≡ true
    → ((j : ℕ) (y : X) → slice_get xs j ≡ Some y → test y ≡ true → j ≡ i) → length (filter test xs) ≡ 1
one_of test [] i x is passes alone = cc
one_of test (y ∷ ys) zero x is passes alone =
    let holds : test y ≡ true = subst (λ z. test z ≡ true) (sym (same_Some y x is)) passes in
    let rest : length (filter test ys) ≡ 0 =
    none_of test ys (λ j z at z_passes. let far : suc j ≡ 0 = alone (suc j) z at z_passes in omega (arith, far)) in
    rw holds (omega (arith, rest))
one_of test (y ∷ ys) (suc i) x is passes alone = elim (cases_Bool (test y)) [
  | inl holds ↦ let far : 0 ≡ suc i = alone 0 y refl holds in absurd (omega (arith, far))
  | inr fails ↦
      rw fails (one_of test ys i x is passes
      (λ j z at z_passes. let same : suc j ≡ suc i = alone (suc j) z at z_passes in omega (arith, same)))
]

-- two at least
pub two_of : {X : Type 0} (test : X → Bool) (xs : List X) (i j : ℕ) (x y : X) → i ≢ j → slice_get xs i ≡ Some x
    → test x ≡ true → slice_get xs j ≡ Some y → test y ≡ true → 2 ≤ length (filter test xs)
two_of test [] i j x y differ at_i x_passes at_j y_passes = cc
two_of test (z ∷ zs) zero zero x y differ at_i x_passes at_j y_passes = absurd (differ refl)
two_of test (z ∷ zs) zero (suc j) x y differ at_i x_passes at_j y_passes =
    let holds : test z ≡ true = subst (λ u. test u ≡ true) (sym (same_Some z x at_i)) x_passes in
    rw holds (omega (arith, some_of test zs j y at_j y_passes))
two_of test (z ∷ zs) (suc i) zero x y differ at_i x_passes at_j y_passes =
    let holds : test z ≡ true = subst (λ u. test u ≡ true) (sym (same_Some z y at_j)) y_passes in
    rw holds (omega (arith, some_of test zs i x at_i x_passes))
two_of test (z ∷ zs) (suc i) (suc j) x y differ at_i x_passes at_j y_passes =
    let rest = two_of test zs i j x y (λ same. differ (omega (arith, same))) at_i x_passes at_j y_passes in
    elim (cases_Bool (test z)) [
      | inl holds ↦ rw holds (omega (arith, rest))
      | inr fails ↦ rw fails rest
    ]

-- all that pass the one test pass the other
pub all_of : {X : Type 0} (test other : X → Bool) (xs : List X)
    → ((i : ℕ) (x : X) → slice_get xs i ≡ Some x → test x ≡ true → other x ≡ true)
    → list_all other (filter test xs) ≡ true
all_of test other [] each = refl
all_of test other (y ∷ ys) each = elim (cases_Bool (test y)) [
  | inl passes ↦
      rw passes (and_from _ _ (each 0 y refl passes) (all_of test other ys (λ i x is holds. each (suc i) x is holds)))
  | inr fails ↦ rw fails (all_of test other ys (λ i x is holds. each (suc i) x is holds))
]
