-- Lists of which each sum is the same are each the other in another order.
use Rattle.std.proofs.Common.{◌≡◌, ◌<◌, ◌+◌, ℕ, Bool, true, false, cond, List, [], ◌∷◌, ◌++◌, refl, sym, ap, subst, arith}
use Rattle.std.specs.List.{sum_by}
use Rattle.std.specs.List.Sorted.{IsPermutation}
use Rattle.std.proofs.lemmas.List.Sorted.{IsPermutation-refl, IsPermutation-sym, IsPermutation-trans, IsPermutation-cons, IsPermutation-middle}
use Rattle.std.proofs.lemmas.List.Sums.{sum_by-append, sum_by-cons}
use Rattle.mrt_graph.proofs.InOrder.{AreAlike}

-- a list with a thing taken out
pub record IsTaken {X : Type 0} (x : X) (ys : List X) : Type 0 where
  pub front : List X
  pub later : List X
  pub parts : ys ≡ front ++ x ∷ later

-- a test that passes of equal things, and of no others
pub record IsEquality {X : Type 0} (same : X → X → Bool) : Type 0 where
  pub own : (x : X) → same x x ≡ true
  pub is : (x y : X) → same x y ≡ true → x ≡ y

taken_by : {X : Type 0} (same : X → X → Bool) → IsEquality same → (x y : X) (ys : List X) (b : Bool) → same x y ≡ b
    → (0 < sum_by (λ z. cond (same x z) 1 0) ys → IsTaken x ys)
    → 0 < cond b 1 0 + sum_by (λ z. cond (same x z) 1 0) ys → IsTaken x (y ∷ ys)
taken_by {X = X} same exact x y ys true told rest some =
    record { front = []; later = ys; parts = ap (λ (z : X). z ∷ ys) (sym (exact.is x y told)) }
taken_by {X = X} same exact x y ys false told rest some =
    let more = rest (omega (arith, some)) in
    record { front = y ∷ more.front; later = more.later; parts = ap (λ (zs : List X). y ∷ zs) more.parts }

take_out : {X : Type 0} (same : X → X → Bool) → IsEquality same → (x : X) (ys : List X)
    → 0 < sum_by (λ z. cond (same x z) 1 0) ys → IsTaken x ys
take_out same exact x [] some = absurd (omega (arith, some))
take_out same exact x (y ∷ ys) some =
    taken_by same exact x y ys (same x y) refl (take_out same exact x ys)
    (omega (arith, some, sum_by-cons (λ z. cond (same x z) 1 0) y ys))

no_sum : {X : Type 0} (ys : List X) → sum_by (λ y. 1) ys ≡ 0 → ys ≡ []
no_sum [] none = refl
no_sum (y ∷ ys) none = absurd (omega (arith, none, sum_by-cons (λ z. 1) y ys))

pub reordered_from_alike : {X : Type 0} (same : X → X → Bool) → IsEquality same → (xs ys : List X) → AreAlike xs ys
    → IsPermutation xs ys
reordered_from_alike same exact [] ys alike = subst (IsPermutation []) (sym (no_sum ys (sym (alike.same (λ y. 1)))))
    (IsPermutation-refl [])
reordered_from_alike {X = X} same exact (x ∷ xs) ys alike =
    let one : ℕ = 1 in
    let own : cond (same x x) 1 0 ≡ one = ap (λ (b : Bool). cond b one 0) (exact.own x) in
    let out = take_out same exact x ys
    (omega (arith, own, sum_by-cons (λ y. cond (same x y) 1 0) x xs, alike.same (λ y. cond (same x y) 1 0))) in
    let fewer : AreAlike xs (out.front ++ out.later) = record {
      same = λ f. omega (
        arith,
        alike.same f,
        sum_by-cons f x xs,
        ap (sum_by f) out.parts,
        sum_by-append f out.front
            (x ∷ out.later),
        sum_by-cons f x out.later,
        sum_by-append f out.front out.later,
      );
    } in
    subst (IsPermutation (x ∷ xs)) (sym out.parts)
    (IsPermutation-trans (x ∷ xs) (x ∷ (out.front ++ out.later)) (out.front ++ x ∷ out.later)
    (IsPermutation-cons x xs (out.front ++ out.later)
    (reordered_from_alike same exact xs (out.front ++ out.later) fewer))
    (IsPermutation-sym (out.front ++ x ∷ out.later) (x ∷ (out.front ++ out.later))
    (IsPermutation-middle out.front x out.later)))
