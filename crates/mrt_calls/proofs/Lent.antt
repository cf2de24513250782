-- What a sink that fills a buffer gained.
use Rattle.std.proofs.Common.{◌≡◌, ◌≤◌, ℕ, List, ◌∷◌, Some, length, take, length-take, sym, subst, arith}
use Rattle.std.proofs.lemmas.Grind.{common_steps}
use Rattle.mrt_io.specs.Writing.{Gained}

-- the same buffer, as long as it was, with these bytes at its front
pub record IsGained (name size : ℕ) (name' size' : ℕ) (front bytes : List ℕ) : Type 0 where
  pub same : name' ≡ name
  pub as_long : size' ≡ size
  pub holds : front ≡ bytes

pub gained_front : (name size count : ℕ) (buffer : List ℕ) (name' size' : ℕ) (front bytes : List ℕ) → count ≡ 0
    → Gained (Some (name ∷ size ∷ take count buffer)) bytes (Some (name' ∷ size' ∷ front))
    → IsGained name size name' size' front bytes
gained_front name size count buffer name' size' front bytes none gained =
    let all = rw none at gained in
    record { same = cc; as_long = cc; holds = cc }

-- what a buffer holds at its front is no longer than it
pub fits_in : (count : ℕ) (buffer bytes : List ℕ) → take count buffer ≡ bytes → length bytes ≤ length buffer
fits_in count buffer bytes holds = subst (λ (xs : List ℕ). length xs ≤ length buffer) holds (omega (arith, length-take {A = ℕ}))

-- and it is there again
pub front_again : (other buffer : List ℕ) (count : ℕ) (bytes : List ℕ) → other ≡ buffer → take count buffer ≡ bytes
    → take (length bytes) other ≡ bytes
front_again other buffer count bytes same holds =
    subst (λ (xs : List ℕ). take (length bytes) xs ≡ bytes) (sym same)
    (subst (λ (xs : List ℕ). take (length xs) buffer ≡ xs) holds (take_again count buffer))
  where
    take_again : (count : ℕ) (buffer : List ℕ) → take (length (take count buffer)) buffer ≡ take count buffer
    take_again count buffer = grind (arith, common_steps)
