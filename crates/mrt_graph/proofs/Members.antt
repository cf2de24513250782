-- Members of lists: of a list with one more element, of filters, of what a function gives; and the first member that passes a test.
use Rattle.std.proofs.Common.{◌≡◌, ◌⊎◌, ◌++◌, ℕ, zero, suc, Bool, true, false, List, [], ◌∷◌, Option, Some, None, map, slice_get, inl, inr, refl, sym, ap, subst, arith}
use Rattle.std.specs.List.{AllByRecursion, Contains, filter, filter_map, find, list_any}
use Rattle.std.proofs.lemmas.Bool.{cases_Bool, cases_eq, or_parts, or_from}
use Rattle.std.proofs.lemmas.List.Elements.{All-contains, All-contains_itself, All-from_recursion, recursion_from_All}
use Rattle.std.proofs.lemmas.Option.{same_Some}

pub contains_first : {X : Type 0} (x : X) (xs : List X) → Contains (x ∷ xs) x
contains_first x xs = (0, omega arith, refl)

pub contains_later : {X : Type 0} (x y : X) (xs : List X) → Contains xs y → Contains (x ∷ xs) y
contains_later x y xs c = (suc c.0, omega (arith, c.1), c.2)

pub contains_cases : {X : Type 0} (x y : X) (xs : List X) → Contains (x ∷ xs) y → (y ≡ x) ⊎ Contains xs y
contains_cases x y xs (zero, within, same) = inl (sym same)
contains_cases x y xs (suc k, within, same) = inr (k, omega (arith, within), same)

pub contains_none : {X : Type 0} (y : X) → Contains [] y → ⊥
contains_none y c = omega (arith, c.1)

-- a number is in a list of numbers, or it is not
pub listed_or_not : (xs : List ℕ) (x : ℕ) → Contains xs x ⊎ (Contains xs x → ⊥)
listed_or_not [] x = inr (λ c. contains_none x c)
listed_or_not (y ∷ ys) x = elim (cases_eq x y) [
  | inl same ↦ inl (subst (λ (z : ℕ). Contains (y ∷ ys) z) (sym same) (contains_first y ys))
  | inr other ↦ elim (listed_or_not ys x) [
    | inl later ↦ inl (contains_later y x ys later)
    | inr nowhere ↦ inr (λ c. elim (contains_cases y x ys c) [ inl same ↦ other same | inr later ↦ nowhere later ])
  ]
]

-- x is a member
abbrev pub Has : {X : Type 0} → List X → X → Type 0
Has [] x = ⊥
Has (y ∷ ys) x = (y ≡ x) ⊎ Has ys x

-- what holds of each element holds of each in a weaker form
pub all_weaker : {X : Type 0} (P Q : X → Type 0) → ((x : X) → P x → Q x) → (xs : List X) → AllByRecursion P xs → AllByRecursion Q xs
all_weaker P Q f [] all = tt
all_weaker P Q f (x ∷ xs) all = (f x all.0, all_weaker P Q f xs all.1)

pub all_has : {X : Type 0} (P : X → Type 0) (xs : List X) (x : X) → AllByRecursion P xs → Has xs x → P x
all_has P [] x all has = absurd has
all_has P (y ∷ ys) x all has = elim has [ inl same ↦ subst P same all.0 | inr later ↦ all_has P ys x all.1 later ]

pub all_from_has : {X : Type 0} (P : X → Type 0) (xs : List X) → ((x : X) → Has xs x → P x) → AllByRecursion P xs
all_from_has P [] each = tt
all_from_has P (y ∷ ys) each = (each y (inl refl), all_from_has P ys (λ x later. each x (inr later)))

pub all_map : {X Y : Type 0} (P : Y → Type 0) (f : X → Y) (xs : List X) → AllByRecursion (λ x. P (f x)) xs → AllByRecursion P (map f xs)
all_map P f [] all = tt
all_map P f (x ∷ xs) all = (all.0, all_map P f xs all.1)

pub all_append : {X : Type 0} (P : X → Type 0) (xs ys : List X) → AllByRecursion P xs → AllByRecursion P ys → AllByRecursion P (xs ++ ys)
all_append P [] ys first second = second
all_append P (x ∷ xs) ys first second = (first.0, all_append P xs ys first.1 second)

pub has_at : {X : Type 0} (xs : List X) (i : ℕ) (x : X) → slice_get xs i ≡ Some x → Has xs x
has_at [] i x is = cc
has_at (y ∷ ys) zero x is = inl (same_Some y x is)
has_at (y ∷ ys) (suc i) x is = inr (has_at ys i x is)

-- members of a filter
pub has_filter : {X : Type 0} (p : X → Bool) (xs : List X) (x : X) → Has (filter p xs) x → Has xs x × (p x ≡ true)
has_filter p [] x has = absurd has
has_filter p (y ∷ ys) x has = elim (cases_Bool (p y)) [
  | inl passes ↦ elim (rw passes at has) [
    | inl same ↦ (inl same, subst (λ z. p z ≡ true) same passes)
    | inr later ↦ let rest = has_filter p ys x later in (inr rest.0, rest.1)
  ]
  | inr fails ↦ let rest = has_filter p ys x (rw fails at has) in (inr rest.0, rest.1)
]

all_given : {X Y : Type 0} (P : Y → Type 0) (h : X → Option Y) (x : X) (xs : List X) (o : Option Y) → h x ≡ o
    → ((z : X) (y : Y) → Has (x ∷ xs) z → h z ≡ Some y → P y) → AllByRecursion P (filter_map h xs) → AllByRecursion P (filter_map h (x ∷ xs))
all_given P h x xs None is each rest = rw is rest
all_given P h x xs (Some y) is each rest = rw is (each x y (inl refl) is, rest)

-- members of a list of what a function gives
pub all_filter_map : {X Y : Type 0} (P : Y → Type 0) (h : X → Option Y) (xs : List X) → ((x : X) (y : Y) → Has xs x → h x ≡ Some y → P y)
    → AllByRecursion P (filter_map h xs)
all_filter_map P h [] each = tt
all_filter_map P h (x ∷ xs) each = all_given P h x xs (h x) refl each (all_filter_map P h xs (λ z y later. each z y (inr later)))

-- tests that tell the same
pub same_tests : (a b : Bool) → (a ≡ true → b ≡ true) → (b ≡ true → a ≡ true) → a ≡ b
same_tests true b there back = sym (there refl)
same_tests false true there back = back refl
same_tests false false there back = refl

-- a member that is found passes
pub find_has : {X : Type 0} (p : X → Bool) (xs : List X) (x : X) → find p xs ≡ Some x → Has xs x × (p x ≡ true)
find_has p [] x found = cc
find_has p (y ∷ ys) x found = elim (cases_Bool (p y)) [
  | inl passes ↦ let same : y ≡ x = same_Some y x (rw passes at found) in (inl same, subst (λ z. p z ≡ true) same passes)
  | inr fails ↦ let rest = find_has p ys x (rw fails at found) in (inr rest.0, rest.1)
]

-- a member that alone passes is found
pub find_only : {X : Type 0} (p : X → Bool) (xs : List X) (x : X) → Has xs x → p x ≡ true → ((y : X) → Has xs y → p y ≡ true → y ≡ x) → find p xs ≡ Some x
find_only p [] x has passes alone = absurd has
find_only p (y ∷ ys) x has passes alone = elim (cases_Bool (p y)) [
  | inl first ↦ rw first (ap (λ z. Some z) (alone y (inl refl) first))
  | inr fails ↦ rw fails (elim has [
    | inl same ↦ let holds : p y ≡ true = subst (λ z. p z ≡ true) (sym same) passes in absurd cc
    | inr later ↦ find_only p ys x later passes (λ z at. alone z (inr at))
  ])
]

-- the two words for a member
pub has_from_contains : {X : Type 0} (xs : List X) (x : X) → Contains xs x → Has xs x
has_from_contains xs x there = All-contains (Has xs) xs x (All-from_recursion (Has xs) xs (all_from_has (Has xs) xs (λ y has. has))) there

pub contains_from_has : {X : Type 0} (xs : List X) (x : X) → Has xs x → Contains xs x
contains_from_has xs x has = all_has (Contains xs) xs x (recursion_from_All (Contains xs) xs (All-contains_itself xs)) has

-- members of what a function gives for members
pub has_map : {X Y : Type 0} (f : X → Y) (xs : List X) (x : X) → Has xs x → Has (map f xs) (f x)
has_map f [] x has = absurd has
has_map f (y ∷ ys) x has = elim has [ inl same ↦ inl (ap f same) | inr later ↦ inr (has_map f ys x later) ]

pub record IsFrom {X Y : Type 0} (f : X → Y) (xs : List X) (y : Y) : Type 0 where
  pub origin : X
  pub there : Has xs origin
  pub is : f origin ≡ y

pub is_from : {X Y : Type 0} (f : X → Y) (xs : List X) (y : Y) → Has (map f xs) y → IsFrom f xs y
is_from f [] y has = absurd has
is_from f (x ∷ xs) y has = elim has [
  | inl same ↦ record { origin = x; there = inl refl; is = same }
  | inr later ↦ let rest = is_from f xs y later in record { origin = rest.origin; there = inr rest.there; is = rest.is }
]

-- a member that passes is a member of the filter
pub filter_has : {X : Type 0} (p : X → Bool) (xs : List X) (x : X) → Has xs x → p x ≡ true → Has (filter p xs) x
filter_has p [] x has passes = absurd has
filter_has p (y ∷ ys) x has passes = elim has [
  | inl same ↦ rw (subst (λ z. p z ≡ true) (sym same) passes) (inl same)
  | inr later ↦ elim (cases_Bool (p y)) [
    | inl first ↦ rw first (inr (filter_has p ys x later passes))
    | inr fails ↦ rw fails (filter_has p ys x later passes)
  ]
]

-- a test that no member passes
pub none_pass : {X : Type 0} (p : X → Bool) (xs : List X) (x : X) → list_any p xs ≡ false → Has xs x → p x ≡ false
none_pass p [] x none has = absurd has
none_pass p (y ∷ ys) x none has =
    let parts = or_parts (p y) (list_any p ys) none in
    elim has [ inl same ↦ subst (λ z. p z ≡ false) same parts.0 | inr later ↦ none_pass p ys x parts.1 later ]

pub pass_none : {X : Type 0} (p : X → Bool) (xs : List X) → ((x : X) → Has xs x → p x ≡ false) → list_any p xs ≡ false
pass_none p [] none = refl
pass_none p (y ∷ ys) none = or_from (p y) (list_any p ys) (none y (inl refl)) (pass_none p ys (λ x later. none x (inr later)))
