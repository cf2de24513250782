-- How many members of a list pass a test.
use Rattle.std.proofs.Common.{◌≡◌, ◌∙◌, ◌<◌, ◌≤◌, ◌+◌, ◌&&◌, ◌++◌, ℕ, zero, suc, Bool, true, false, cond, List, [], ◌∷◌, Some, length, map, slice_get, inl, inr, refl, sym, ap, subst, arith}
use Rattle.std.specs.List.{count_by, filter, position, position_or_len}
use Rattle.std.proofs.lemmas.Bool.{cases_Bool, and_parts, lt-ltb}
use Rattle.std.proofs.lemmas.List.Sums.{sum_by-cons}
use Rattle.std.proofs.lemmas.Option.{same_Some, slice_get_within}
use Rattle.mrt_graph.proofs.Members.{Has, has_at}

-- what a test counts
abbrev pub one_if : Bool → ℕ
one_if b = cond b 1 0

-- how many members pass
abbrev pub tally : {X : Type 0} → (X → Bool) → List X → ℕ
tally p [] = 0
tally p (x ∷ xs) = one_if (p x) + tally p xs

pub count_is_tally : {X : Type 0} (p : X → Bool) (xs : List X) → count_by p xs ≡ tally p xs
count_is_tally p [] = refl
count_is_tally p (x ∷ xs) = sum_by-cons (λ y. one_if (p y)) x xs ∙ ap (λ n. one_if (p x) + n) (count_is_tally p xs)

pub length_is_tally : {X : Type 0} (p : X → Bool) (xs : List X) → length (filter p xs) ≡ tally p xs
length_is_tally p [] = refl
length_is_tally p (x ∷ xs) = elim (cases_Bool (p x)) [
  | inl passes ↦ rw passes (omega (arith, length_is_tally p xs))
  | inr fails ↦ rw fails (omega (arith, length_is_tally p xs))
]

pub tally_append : {X : Type 0} (p : X → Bool) (xs ys : List X) → tally p (xs ++ ys) ≡ tally p xs + tally p ys
tally_append p [] ys = omega arith
tally_append p (x ∷ xs) ys = omega (arith, tally_append p xs ys)

pub tally_map : {X Y : Type 0} (p : Y → Bool) (f : X → Y) (xs : List X) → tally p (map f xs) ≡ tally (λ x. p (f x)) xs
tally_map p f [] = refl
tally_map p f (x ∷ xs) = ap (λ n. one_if (p (f x)) + n) (tally_map p f xs)

pub tally_filter : {X : Type 0} (p q : X → Bool) (xs : List X) → tally p (filter q xs) ≡ tally (λ x. q x && p x) xs
tally_filter p q [] = refl
tally_filter p q (x ∷ xs) = elim (cases_Bool (q x)) [
  | inl passes ↦ rw passes (omega (arith, tally_filter p q xs))
  | inr fails ↦ rw fails (omega (arith, tally_filter p q xs))
]

pub tally_alike : {X : Type 0} (p q : X → Bool) (xs : List X) → ((x : X) → Has xs x → p x ≡ q x) → tally p xs ≡ tally q xs
tally_alike p q [] same = refl
tally_alike p q (x ∷ xs) same =
    let first : one_if (p x) ≡ one_if (q x) = ap one_if (same x (inl refl)) in
    omega (arith, first, tally_alike p q xs (λ y later. same y (inr later)))

pub tally_none : {X : Type 0} (p : X → Bool) (xs : List X) → ((x : X) → Has xs x → p x ≡ false) → tally p xs ≡ 0
tally_none p [] none = refl
tally_none p (x ∷ xs) none = rw (none x (inl refl)) (omega (arith, tally_none p xs (λ y later. none y (inr later))))

pub tally_some : {X : Type 0} (p : X → Bool) (xs : List X) (x : X) → Has xs x → p x ≡ true → 1 ≤ tally p xs
tally_some p [] x has passes = absurd has
tally_some p (y ∷ ys) x has passes = elim has [
  | inl same ↦ let first : one_if (p y) ≡ 1 = ap one_if (subst (λ z. p z ≡ true) (sym same) passes) in omega (arith, first)
  | inr later ↦ omega (arith, tally_some p ys x later passes)
]

-- where at most one passes, two that pass are one
pub tally_same : {X : Type 0} (p : X → Bool) (xs : List X) (x y : X) → tally p xs ≤ 1 → Has xs x → p x ≡ true → Has xs y → p y ≡ true → x ≡ y
tally_same p [] x y one has_x x_passes has_y y_passes = absurd has_x
tally_same p (z ∷ zs) x y one has_x x_passes has_y y_passes = elim has_x [
  | inl same_x ↦
      let first : one_if (p z) ≡ 1 = ap one_if (subst (λ u. p u ≡ true) (sym same_x) x_passes) in
      elim has_y [
        | inl same_y ↦ sym same_x ∙ same_y
        | inr later_y ↦ absurd (omega (arith, one, first, tally_some p zs y later_y y_passes))
      ]
  | inr later_x ↦ elim has_y [
    | inl same_y ↦
        let first : one_if (p z) ≡ 1 = ap one_if (subst (λ u. p u ≡ true) (sym same_y) y_passes) in
        absurd (omega (arith, one, first, tally_some p zs x later_x x_passes))
    | inr later_y ↦ tally_same p zs x y (omega (arith, one)) later_x x_passes later_y y_passes
  ]
]

if_below : (a b : Bool) → (a ≡ true → b ≡ true) → one_if a ≤ one_if b
if_below true b more = rw (more refl) (omega arith)
if_below false b more = omega arith

-- a test that passes where another does counts no less
pub tally_below : {X : Type 0} (p q : X → Bool) (xs : List X) → ((x : X) → Has xs x → p x ≡ true → q x ≡ true) → tally p xs ≤ tally q xs
tally_below p q [] more = omega arith
tally_below p q (x ∷ xs) more = omega (arith, if_below (p x) (q x) (more x (inl refl)), tally_below p q xs (λ y later. more y (inr later)))

-- and counts more where it alone passes a member
pub tally_fewer : {X : Type 0} (p q : X → Bool) (xs : List X) (x : X) → ((y : X) → Has xs y → p y ≡ true → q y ≡ true)
    → Has xs x → p x ≡ false → q x ≡ true → tally p xs < tally q xs
tally_fewer p q [] x more has fails passes = absurd has
tally_fewer p q (y ∷ ys) x more has fails passes = elim has [
  | inl same ↦
      let none : one_if (p y) ≡ 0 = ap one_if (subst (λ z. p z ≡ false) (sym same) fails) in
      let one : one_if (q y) ≡ 1 = ap one_if (subst (λ z. q z ≡ true) (sym same) passes) in
      omega (arith, none, one, tally_below p q ys (λ z later. more z (inr later)))
  | inr later ↦
      omega (arith, if_below (p y) (q y) (more y (inl refl)), tally_fewer p q ys x (λ z at. more z (inr at)) later fails passes)
]

-- a filter counts at most what its list counts
pub tally_filtered : {X : Type 0} (p q : X → Bool) (xs : List X) → tally p (filter q xs) ≤ tally p xs
tally_filtered p q xs = omega (arith, tally_filter p q xs, tally_below (λ x. q x && p x) p xs (λ x has passes. (and_parts (q x) (p x) passes).1))

-- where at most one passes, it stands in the first place that passes
first_place : {X : Type 0} (p : X → Bool) (xs : List X) (i : ℕ) (x : X) → tally p xs ≤ 1 → slice_get xs i ≡ Some x → p x ≡ true → position_or_len p xs ≡ i
first_place p [] i x one is passes = cc
first_place p (y ∷ ys) zero x one is passes =
    let holds : p y ≡ true = subst (λ z. p z ≡ true) (sym (same_Some y x is)) passes in rw holds refl
first_place p (y ∷ ys) (suc i) x one is passes = elim (cases_Bool (p y)) [
  | inl first ↦
      let counted : one_if (p y) ≡ 1 = ap one_if first in
      absurd (omega (arith, one, counted, tally_some p ys x (has_at ys i x is) passes))
  | inr fails ↦ let rest : position_or_len p ys ≡ i = first_place p ys i x (omega (arith, one)) is passes in rw fails (omega (arith, rest))
]

pub position_of_one : {X : Type 0} (p : X → Bool) (xs : List X) (i : ℕ) (x : X) → tally p xs ≤ 1 → slice_get xs i ≡ Some x → p x ≡ true → position p xs ≡ Some i
position_of_one p xs i x one is passes = rw (first_place p xs i x one is passes, lt-ltb i (length xs) (slice_get_within xs i x is)) refl

-- a member that passes, and its place
pub record IsFound {X : Type 0} (p : X → Bool) (xs : List X) : Type 0 where
  pub place : ℕ
  pub item : X
  pub there : slice_get xs place ≡ Some item
  pub passes : p item ≡ true

-- where some pass, one is found
pub found_at : {X : Type 0} (p : X → Bool) (xs : List X) → 1 ≤ tally p xs → IsFound p xs
found_at p [] some = absurd (omega (arith, some))
found_at p (x ∷ xs) some = elim (cases_Bool (p x)) [
  | inl first ↦ record { place = 0; item = x; there = refl; passes = first }
  | inr fails ↦
      let none : one_if (p x) ≡ 0 = ap one_if fails in
      let rest : IsFound p xs = found_at p xs (omega (arith, some, none)) in
      record { place = suc rest.place; item = rest.item; there = rest.there; passes = rest.passes }
]

pub counted_at : {X : Type 0} (p : X → Bool) (xs : List X) → 1 ≤ count_by p xs → IsFound p xs
counted_at p xs some = found_at p xs (omega (arith, some, count_is_tally p xs))
