-- What tests on elements of lists tell.
use Rattle.std.proofs.Common.{◌≡◌, ◌||◌, ◌<◌, ◌≤◌, ℕ, zero, suc, Bool, true, false, not, List, [], ◌∷◌, Option, Some, None, filter, length, slice_get, inl, inr, refl, sym, subst, arith}
use Rattle.std.proofs.lemmas.Bool.{cases_Bool, and_parts}
use Rattle.std.proofs.lemmas.Option.{same_Some}
use Rattle.std.specs.List.{AllByRecursion, list_all}
use Rattle.std.specs.Option.{option_map_or}

-- a value that is there, and passes
pub record Passing {X : Type 0} (test : X → Bool) (o : Option X) : Type 0 where
  pub value : X
  pub is : o ≡ Some value
  pub passes : test value ≡ true

pub some_passes : {X : Type 0} (test : X → Bool) (o : Option X) → option_map_or test o false ≡ true → Passing test o
some_passes test None h = cc
some_passes test (Some x) h = record { value = x; is = refl; passes = h }

-- a test that holds where another does
pub implied : (a b : Bool) → (not a || b) ≡ true → a ≡ true → b ≡ true
implied true b h holds = h
implied false b h holds = cc

-- what stands at a place of a list
pub there : {X : Type 0} (xs : List X) (i : ℕ) → i < length xs → (x : X) × (slice_get xs i ≡ Some x)
there [] i within = absurd (omega (arith, within))
there (x ∷ xs) zero within = (x, refl)
there (x ∷ xs) (suc i) within = there xs i (omega (arith, within))

pub all_at : {X : Type 0} (P : X → Type 0) (xs : List X) (i : ℕ) (x : X) → AllByRecursion P xs → slice_get xs i ≡ Some x → P x
all_at P [] i x all is = cc
all_at P (y ∷ ys) zero x all is = let same : y ≡ x = same_Some y x is in subst P same all.0
all_at P (y ∷ ys) (suc i) x all is = all_at P ys i x all.1 is

-- where all that pass the one test pass the other, an element that passes the one does
pub passes_too : {X : Type 0} (test other : X → Bool) (xs : List X) (i : ℕ) (x : X) → list_all other (filter test xs) ≡ true
    → slice_get xs i ≡ Some x → test x ≡ true → other x ≡ true
passes_too test other [] i x all is passes = cc
passes_too test other (y ∷ ys) zero x all is passes =
    let same : y ≡ x = same_Some y x is in
    let holds : test y ≡ true = subst (λ z. test z ≡ true) (sym same) passes in
    let e = rw holds at all in
    subst (λ z. other z ≡ true) same (and_parts (other y) (list_all other (filter test ys)) e).0
passes_too test other (y ∷ ys) (suc i) x all is passes = elim (cases_Bool (test y)) [
  | inl holds ↦ let e = rw holds at all in passes_too test other ys i x (and_parts (other y) (list_all other (filter test ys)) e).1 is passes
  | inr fails ↦ let e = rw fails at all in passes_too test other ys i x e is passes
]

-- where an element passes, one at least does
some_pass : {X : Type 0} (test : X → Bool) (xs : List X) (i : ℕ) (x : X) → slice_get xs i ≡ Some x → test x ≡ true → 1 ≤ length (filter test xs)
some_pass test [] i x is passes = cc
some_pass test (y ∷ ys) zero x is passes =
    let holds : test y ≡ true = subst (λ z. test z ≡ true) (sym (same_Some y x is)) passes in
    rw holds (omega arith)
some_pass test (y ∷ ys) (suc i) x is passes = elim (cases_Bool (test y)) [
  | inl holds ↦ rw holds (omega arith)
  | inr fails ↦ rw fails (some_pass test ys i x is passes)
]

-- where one element passes, two that pass are one
pub one_passes : {X : Type 0} (test : X → Bool) (xs : List X) (i j : ℕ) (x y : X) → length (filter test xs) ≡ 1
    → slice_get xs i ≡ Some x → test x ≡ true → slice_get xs j ≡ Some y → test y ≡ true → i ≡ j
one_passes test [] i j x y one at_i x_passes at_j y_passes = cc
one_passes test (z ∷ zs) zero zero x y one at_i x_passes at_j y_passes = refl
one_passes test (z ∷ zs) zero (suc j) x y one at_i x_passes at_j y_passes =
    let holds : test z ≡ true = subst (λ u. test u ≡ true) (sym (same_Some z x at_i)) x_passes in
    let e = rw holds at one in
    absurd (omega (arith, e, some_pass test zs j y at_j y_passes))
one_passes test (z ∷ zs) (suc i) zero x y one at_i x_passes at_j y_passes =
    let holds : test z ≡ true = subst (λ u. test u ≡ true) (sym (same_Some z y at_j)) y_passes in
    let e = rw holds at one in
    absurd (omega (arith, e, some_pass test zs i x at_i x_passes))
one_passes test (z ∷ zs) (suc i) (suc j) x y one at_i x_passes at_j y_passes = elim (cases_Bool (test z)) [
  | inl holds ↦ let e = rw holds at one in absurd (omega (arith, e, some_pass test zs i x at_i x_passes))
  | inr fails ↦ let e = rw fails at one in let same : i ≡ j = one_passes test zs i j x y e at_i x_passes at_j y_passes in omega (arith, same)
]
