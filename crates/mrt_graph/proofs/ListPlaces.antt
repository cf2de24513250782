-- What stands at the places of a list: with one more element, with one replaced; and at which place a member stands.
use Rattle.std.proofs.Common.{◌≡◌, ◌≢◌, ◌⊎◌, ◌<◌, ◌++◌, ◌∙◌, ℕ, zero, suc, List, [], ◌∷◌, Some, length, set, slice_get, inl, inr, refl, ap, arith}
use Rattle.std.specs.Prelude.{Contains}
use Rattle.std.proofs.lemmas.List.{get_or-set_same, length-set}
use Rattle.std.proofs.lemmas.Option.{get_or_from_slice_get, same_Some, slice_get-get_or, slice_get_within}

pub at_left : {X : Type 0} (xs ys : List X) (k : ℕ) (x : X) → slice_get xs k ≡ Some x → slice_get (xs ++ ys) k ≡ Some x
at_left [] ys k x at = cc
at_left (y ∷ xs) ys zero x at = at
at_left (y ∷ xs) ys (suc k) x at = at_left xs ys k x at

pub at_last : {X : Type 0} (xs : List X) (y : X) → slice_get (xs ++ y ∷ []) (length xs) ≡ Some y
at_last [] y = refl
at_last (x ∷ xs) y = at_last xs y

-- what stands in a list with one more element stood there before, or is that element
pub pushed_at : {X : Type 0} (xs : List X) (y x : X) (k : ℕ) → slice_get (xs ++ y ∷ []) k ≡ Some x
    → (slice_get xs k ≡ Some x) ⊎ ((k ≡ length xs) × (y ≡ x))
pushed_at [] y x zero at = inr (refl, same_Some y x at)
pushed_at [] y x (suc k) at = cc
pushed_at (z ∷ xs) y x zero at = inl at
pushed_at (z ∷ xs) y x (suc k) at = elim (pushed_at xs y x k at) [
  | inl before ↦ inl before
  | inr last ↦ inr (omega (arith, last.0), last.1)
]

pub contains_at : {X : Type 0} (xs : List X) (k : ℕ) (x : X) → slice_get xs k ≡ Some x → Contains xs x
contains_at xs k x at = (k, slice_get_within xs k x at, get_or_from_slice_get xs k x x at)

pub place_of : {X : Type 0} (xs : List X) (x : X) → Contains xs x → (k : ℕ) × (slice_get xs k ≡ Some x)
place_of xs x c = (c.0, slice_get-get_or xs c.0 x c.1 ∙ ap (λ y. Some y) c.2)

pub set_there : {X : Type 0} (xs : List X) (i : ℕ) (y : X) → i < length xs → slice_get (set xs i y) i ≡ Some y
set_there xs i y within =
    slice_get-get_or (set xs i y) i y (omega (arith, within, length-set xs i y)) ∙ ap (λ z. Some z) (get_or-set_same xs i y y within)

pub set_elsewhere : {X : Type 0} (xs : List X) (i j : ℕ) (y : X) → j ≢ i → slice_get (set xs i y) j ≡ slice_get xs j
set_elsewhere [] i j y other = refl
set_elsewhere (x ∷ xs) zero zero y other = absurd (other refl)
set_elsewhere (x ∷ xs) zero (suc j) y other = refl
set_elsewhere (x ∷ xs) (suc i) zero y other = refl
set_elsewhere (x ∷ xs) (suc i) (suc j) y other = set_elsewhere xs i j y (λ same. other (omega (arith, same)))
