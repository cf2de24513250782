-- Lists in which no number stands twice.
use Rattle.std.proofs.Common.{◌≡◌, ◌≤◌, ◌==◌, ℕ, zero, suc, List, [], ◌∷◌, inl, inr, refl, subst, arith}
use Rattle.std.specs.Prelude.{Contains}
use Rattle.std.proofs.lemmas.Bool.{cases_eq, eq-eqb, ne_eqb}
use Rattle.std.proofs.lemmas.Option.{same_Some}
use Rattle.mrt_graph.proofs.FewNumbers.{IsAtOnePlace}
use Rattle.mrt_graph.proofs.ListPlaces.{contains_at}
use Rattle.mrt_graph.proofs.Members.{contains_from_has, contains_none, has_from_contains}
use Rattle.mrt_graph.proofs.Tallies.{tally, tally_none, tally_some}

-- how often v stands in the list
abbrev pub times : ℕ → List ℕ → ℕ
times v xs = tally (λ u. u == v) xs

pub none_of : (v : ℕ) (us : List ℕ) → (Contains us v → ⊥) → times v us ≡ 0
none_of v us none = tally_none (λ u. u == v) us (λ u has. ne_eqb u v (λ same. none (subst (λ (w : ℕ). Contains us w) same (contains_from_has us u has))))

pub some_of : (v : ℕ) (us : List ℕ) → Contains us v → 1 ≤ times v us
some_of v us c = tally_some (λ u. u == v) us v (has_from_contains us v c) (eq-eqb v v (λ i. v))

pub one_more : (v w : ℕ) (us : List ℕ) → (Contains us v → ⊥) → times w us ≤ 1 → times w (v ∷ us) ≤ 1
one_more v w us none once = elim (cases_eq v w) [
  | inl same ↦ rw (eq-eqb v w same) (omega (arith, none_of w us (subst (λ (y : ℕ). Contains us y → ⊥) same none)))
  | inr other ↦ rw (ne_eqb v w other) (omega (arith, once))
]

pub one_alone : (v w : ℕ) → times w (v ∷ []) ≤ 1
one_alone v w = one_more v w [] (λ c. contains_none v c) (omega arith)

-- a number that stands in a list at most once stands at one place
pub one_place : (xs : List ℕ) (v : ℕ) → times v xs ≤ 1 → IsAtOnePlace xs v
one_place [] v once j k at_j at_k = cc
one_place (x ∷ xs) v once zero zero at_j at_k = refl
one_place (x ∷ xs) v once zero (suc k) at_j at_k =
    let first = rw (eq-eqb x v (same_Some x v at_j)) at once in absurd (omega (arith, first, some_of v xs (contains_at xs k v at_k)))
one_place (x ∷ xs) v once (suc j) zero at_j at_k =
    let first = rw (eq-eqb x v (same_Some x v at_k)) at once in absurd (omega (arith, first, some_of v xs (contains_at xs j v at_j)))
one_place (x ∷ xs) v once (suc j) (suc k) at_j at_k =
    let later : times v xs ≤ 1 = omega (arith, once) in
    let same : j ≡ k = one_place xs v later j k at_j at_k in omega (arith, same)
