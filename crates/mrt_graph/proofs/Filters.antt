-- Filters: what they keep, in which order, and sums over it.
use Rattle.std.proofs.Common.{◌≡◌, ◌∙◌, ◌+◌, ℕ, zero, suc, Bool, true, false, cond, inl, inr, length, not, List, [], ◌∷◌, Some, slice_get, refl, sym, ap, subst, arith}
use Rattle.std.proofs.lemmas.List.Elements.{filter_passes}
use Rattle.std.proofs.lemmas.List.Filters.{length-filter_both}
use Rattle.std.proofs.lemmas.Option.{slice_get_within, get_or_from_slice_get}
use Rattle.std.specs.declared.cmp.Ordering.{Ordering}
use Rattle.std.specs.Cmp.{IsTotalOrder}
use Rattle.std.specs.List.{AllByRecursion, Contains, filter, sum_by}
use Rattle.std.specs.List.Sorted.{IsPermutation}
use Rattle.std.proofs.lemmas.Bool.{both_ways, cases_Bool}
use Rattle.std.proofs.lemmas.List.Sorted.{sum_by-IsPermutation}
use Rattle.std.proofs.lemmas.List.Sums.{sum_by-cons}
use Rattle.mrt_graph.specs.InOrder.{in_order}
use Rattle.mrt_graph.proofs.InOrder.{AreAlike, OnlyEqualsTie, Rises, one_order, in_order_rises, sum_by-in_order, Contains-from_in_order}
use Rattle.mrt_graph.proofs.Members.{contains_later}

-- tests that agree on a list keep the same of it
pub filter_agree_in : {X : Type 0} (p q : X → Bool) (xs : List X) → AllByRecursion (λ x. p x ≡ q x) xs → filter p xs ≡ filter q xs
filter_agree_in p q [] agree = refl
filter_agree_in {X} p q (x ∷ xs) agree =
    ap (λ (b : Bool). cond b (x ∷ filter p xs) (filter p xs)) agree.0 ∙ ap (λ (r : List X). cond (q x) (x ∷ r) r) (filter_agree_in p q xs agree.1)

-- a filter that keeps as many as there are keeps all
pub all_pass : {X : Type 0} (p : X → Bool) (xs : List X) → length (filter p xs) ≡ length xs → filter p xs ≡ xs
all_pass p [] all = refl
all_pass {X} p (x ∷ xs) all = elim (cases_Bool (p x)) [
  | inl passes ↦
      let more : suc (length (filter p xs)) ≡ suc (length xs) = rw passes at all in
      rw passes (ap (λ (ys : List X). x ∷ ys) (all_pass p xs (omega (arith, more))))
  | inr fails ↦
      let fewer : length (filter p xs) ≡ suc (length xs) = rw fails at all in
      absurd (omega (arith, fewer, length-filter_both p (λ y. not (p y)) (λ y. refl) xs))
]

-- a sum over what a filter keeps
sum_kept_by : {X : Type 0} (b : Bool) (f : X → ℕ) (x : X) (xs : List X) (rest : ℕ) → sum_by f xs ≡ rest → sum_by f (cond b (x ∷ xs) xs) ≡ cond b (f x) 0 + rest
sum_kept_by true f x xs rest is = sum_by-cons f x xs ∙ ap (λ n. f x + n) is
sum_kept_by false f x xs rest is = is ∙ omega arith

pub sum_by-filter : {X : Type 0} (p : X → Bool) (f : X → ℕ) (xs : List X) → sum_by f (filter p xs) ≡ sum_by (λ x. cond (p x) (f x) 0) xs
sum_by-filter p f [] = refl
sum_by-filter p f (x ∷ xs) =
    sum_kept_by (p x) f x (filter p xs) (sum_by (λ y. cond (p y) (f y) 0) xs) (sum_by-filter p f xs) ∙ sym (sum_by-cons (λ y. cond (p y) (f y) 0) x xs)

pub alike_filter : {X : Type 0} (p : X → Bool) (xs ys : List X) → IsPermutation xs ys → AreAlike (filter p ys) (filter p xs)
alike_filter {X} p xs ys moves = record {
  same = λ f. sum_by-filter p f ys ∙ sum_by-IsPermutation (λ (y : X). cond (p y) (f y) 0) xs ys moves ∙ sym (sum_by-filter p f xs);
}

-- a filter keeps elements, and their order
kept_by : {X : Type 0} (b : Bool) (x y : X) (xs ys : List X) → (Contains ys y → Contains xs y) → Contains (cond b (x ∷ ys) ys) y → Contains (x ∷ xs) y
kept_by true x y xs ys rest (zero, within, is) = (0, omega arith, is)
kept_by true x y xs ys rest (suc k, within, is) = contains_later x y xs (rest (k, omega (arith, within), is))
kept_by false x y xs ys rest there = contains_later x y xs (rest there)

pub Contains-from_filter : {X : Type 0} (p : X → Bool) (xs : List X) (y : X) → Contains (filter p xs) y → Contains xs y
Contains-from_filter p [] y there = there
Contains-from_filter p (x ∷ xs) y there = kept_by (p x) x y xs (filter p xs) (Contains-from_filter p xs y) there

passes_by : {X : Type 0} (b : Bool) (p : X → Bool) (x y : X) (ys : List X) → p x ≡ b → (Contains ys y → p y ≡ true) → Contains (cond b (x ∷ ys) ys) y → p y ≡ true
passes_by true p x y ys is rest (zero, within, at) = ap p (sym at) ∙ is
passes_by true p x y ys is rest (suc k, within, at) = rest (k, omega (arith, within), at)
passes_by false p x y ys is rest there = rest there

pub passes_from_filter : {X : Type 0} (p : X → Bool) (xs : List X) (y : X) → Contains (filter p xs) y → p y ≡ true
passes_from_filter p [] y there = absurd (omega (arith, there.1))
passes_from_filter p (x ∷ xs) y there = passes_by (p x) p x y (filter p xs) refl (passes_from_filter p xs y) there

contains_by : {X : Type 0} (b : Bool) (p : X → Bool) (x y : X) (xs ys : List X) → p x ≡ b → p y ≡ true → (Contains xs y → Contains ys y) → Contains (x ∷ xs) y → Contains (cond b (x ∷ ys) ys) y
contains_by true p x y xs ys is passes rest (zero, within, at) = (0, omega arith, at)
contains_by true p x y xs ys is passes rest (suc k, within, at) = contains_later x y ys (rest (k, omega (arith, within), at))
contains_by false p x y xs ys is passes rest (zero, within, at) = absurd (both_ways (p x) is (ap p at ∙ passes))
contains_by false p x y xs ys is passes rest (suc k, within, at) = rest (k, omega (arith, within), at)

pub Contains-filter : {X : Type 0} (p : X → Bool) (xs : List X) (y : X) → Contains xs y → p y ≡ true → Contains (filter p xs) y
Contains-filter p [] y there passes = there
Contains-filter p (x ∷ xs) y there passes = contains_by (p x) p x y xs (filter p xs) refl passes (λ later. Contains-filter p xs y later passes) there

all_kept_by : {X : Type 0} (b : Bool) (P : X → Type 0) (x : X) (xs : List X) → P x → AllByRecursion P xs → AllByRecursion P (cond b (x ∷ xs) xs)
all_kept_by true P x xs px all = (px, all)
all_kept_by false P x xs px all = all

pub all_filter : {X : Type 0} (p : X → Bool) (P : X → Type 0) (xs : List X) → AllByRecursion P xs → AllByRecursion P (filter p xs)
all_filter p P [] all = tt
all_filter p P (x ∷ xs) all = all_kept_by (p x) P x (filter p xs) all.0 (all_filter p P xs all.1)

rises_kept_by : {X : Type 0} (b : Bool) (cmp : X → X → Ordering) (x : X) (xs : List X) → Rises cmp (x ∷ xs) → Rises cmp (cond b (x ∷ xs) xs)
rises_kept_by true cmp x xs rises = rises
rises_kept_by false cmp x xs rises = rises.1

pub rises_filter : {X : Type 0} (cmp : X → X → Ordering) (p : X → Bool) (xs : List X) → Rises cmp xs → Rises cmp (filter p xs)
rises_filter cmp p [] rises = tt
rises_filter cmp p (x ∷ xs) rises =
    rises_kept_by (p x) cmp x (filter p xs) (all_filter p _ xs rises.0, rises_filter cmp p xs rises.1)

-- a filter of a list in order is the filter's list in order
pub filter-in_order : {X : Type 0} (cmp : X → X → Ordering) → IsTotalOrder cmp → (p : X → Bool) (xs : List X) → OnlyEqualsTie cmp xs xs
    → filter p (in_order cmp xs) ≡ in_order cmp (filter p xs)
filter-in_order {X} cmp total p xs ties =
    let alike : AreAlike (filter p (in_order cmp xs)) (in_order cmp (filter p xs)) = record {
      same = λ f.
          sum_by-filter p f (in_order cmp xs) ∙ sum_by-in_order cmp (λ x. cond (p x) (f x) 0) xs ∙ sym (sum_by-filter p f xs) ∙ sym (sum_by-in_order cmp f (filter p xs));
    } in
    let both : OnlyEqualsTie cmp (filter p (in_order cmp xs)) (in_order cmp (filter p xs)) = record {
      same = λ x y in_x in_y tie.
          ties.same x y (Contains-from_in_order cmp xs x (Contains-from_filter p (in_order cmp xs) x in_x))
          (Contains-from_filter p xs y (Contains-from_in_order cmp (filter p xs) y in_y)) tie;
    } in
    one_order cmp total (filter p (in_order cmp xs)) (in_order cmp (filter p xs)) alike both (rises_filter cmp p (in_order cmp xs) (in_order_rises cmp total xs)) (in_order_rises cmp total (filter p xs))

-- an element of a filtered list passes the test
pub passes_at : {X : Type 0} (p : X → Bool) (xs : List X) (k : ℕ) (x : X) → slice_get (filter p xs) k ≡ Some x → p x ≡ true
passes_at {X} p xs k x there =
    subst (λ (y : X). p y ≡ true) (get_or_from_slice_get (filter p xs) k x x there) (filter_passes p xs k x (slice_get_within (filter p xs) k x there))

later_kept : {X : Type 0} (p : X → Bool) (y x : X) (ys : List X) (b : Bool) → p y ≡ b → (j : ℕ) × (slice_get (filter p ys) j ≡ Some x) → (j : ℕ) × (slice_get (filter p (y ∷ ys)) j ≡ Some x)
later_kept {X} p y x ys true holds found = (suc found.0, rw holds found.1)
later_kept {X} p y x ys false fails found = (found.0, rw fails found.1)

-- an element that passes the test is in the filtered list
pub kept_at : {X : Type 0} (p : X → Bool) (xs : List X) (k : ℕ) (x : X) → slice_get xs k ≡ Some x → p x ≡ true → (j : ℕ) × (slice_get (filter p xs) j ≡ Some x)
kept_at {X} p [] k x there holds = absurd cc
kept_at {X} p (y ∷ ys) zero x there holds =
    let same : y ≡ x = cc in
    let also : p y ≡ true = ap p same ∙ holds
    in (zero, rw also there)
kept_at {X} p (y ∷ ys) (suc k) x there holds = later_kept p y x ys (p y) refl (kept_at p ys k x there holds)
