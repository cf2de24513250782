-- The arcs of a node stand one after another.
use Rattle.std.proofs.Common.{◌≡◌, ◌<◌, ◌≤◌, ◌+◌, ◌-◌, ◌==◌, ◌∙◌, ℕ, zero, suc, true, false, cond, List, [], ◌∷◌, length, get_or, take, drop, inl, inr, refl, sym, ap, subst, arith}
use Rattle.std.specs.Prelude.{nat_lt}
use Rattle.std.specs.Cmp.{IsTotalOrder}
use Rattle.std.specs.List.{filter, AllByRecursion}
use Rattle.std.specs.List.Sorted.{IsSorted}
use Rattle.std.specs.Ordering.{nat_cmp, ordering_then}
use Rattle.std.proofs.lemmas.Bool.{cases_lt, le-ltb, lt-ltb, ne_eqb}
use Rattle.std.proofs.lemmas.Bool.Decides.{eqb_tells}
use Rattle.std.proofs.lemmas.Cmp.{nat_cmp_total, on_total, then_total}
use Rattle.std.proofs.lemmas.List.{get_or_append_left, get_or-append_right, length-append}
use Rattle.std.proofs.lemmas.List.Elements.{recursion_from_All}
use Rattle.std.proofs.lemmas.List.Sorted.{sorted_far}
use Rattle.std.proofs.lemmas.List.Sums.{sum_by-cons}
use Rattle.std.proofs.lemmas.Map.Keys.{ge_from_not_lt}
use Rattle.mrt_graph.proofs.InOrder.{before_ranks, is_before}
use Rattle.mrt_graph.proofs.Tallies.{one_if}
use Rattle.mrt_graph.proofs.Ties.{first_not_lt}
use Rattle.area_graph.specs.declared.area_types.Arc.{Arc}
use Rattle.area_graph.specs.AreaInvariant.{by_tail_cmp}
use Rattle.area_graph.specs.steps.Starts.{AreStarts, below, starts_to}

by_tail_total : IsTotalOrder by_tail_cmp
by_tail_total =
    then_total (then_total (then_total (on_total (λ arc. arc.tail) nat_cmp_total) (on_total (λ arc. arc.metric) nat_cmp_total)) (on_total (λ arc. arc.to) nat_cmp_total))
    (on_total (λ arc. arc.link_data) nat_cmp_total)

-- no later arc has a lower tail
abbrev pub Climbs : List Arc → Type 0
Climbs [] = Unit {0}
Climbs (x ∷ xs) = AllByRecursion (λ arc. x.tail ≤ arc.tail) xs × Climbs xs

tails : (x y : Arc) → is_before by_tail_cmp y x ≡ false → x.tail ≤ y.tail
tails x y h =
    ge_from_not_lt y.tail x.tail (first_not_lt (nat_cmp y.tail x.tail) (nat_cmp y.metric x.metric)
    (first_not_lt (ordering_then (nat_cmp y.tail x.tail) (nat_cmp y.metric x.metric)) (nat_cmp y.to x.to)
    (first_not_lt (ordering_then (ordering_then (nat_cmp y.tail x.tail) (nat_cmp y.metric x.metric)) (nat_cmp y.to x.to)) (nat_cmp y.link_data x.link_data) h)))

sorted_later : (x : Arc) (xs : List Arc) → IsSorted by_tail_cmp (x ∷ xs) → IsSorted by_tail_cmp xs
sorted_later x xs sorted = λ k d low within.
    let next : suc k + 1 ≡ suc (k + 1) = omega arith in
    subst (λ place. is_before by_tail_cmp (get_or (x ∷ xs) place d) (get_or xs k d) ≡ false) next (sorted (suc k) d (omega arith) (omega arith))

pub climbs : (xs : List Arc) → IsSorted by_tail_cmp xs → Climbs xs
climbs [] sorted = tt
climbs (x ∷ xs) sorted = (
  recursion_from_All (λ arc. x.tail ≤ arc.tail) xs (λ k d within. tails x (get_or xs k d) (sorted_far (is_before by_tail_cmp) (before_ranks by_tail_cmp by_tail_total) (x ∷ xs) sorted 0 (suc k) d (omega arith) (omega arith))),
  climbs xs (sorted_later x xs sorted),
)

below_cons : (s : ℕ) (x : Arc) (xs : List Arc) → below s (x ∷ xs) ≡ one_if (nat_lt x.tail s) + below s xs
below_cons s x xs = sum_by-cons (λ (arc : Arc). cond (nat_lt arc.tail s) 1 0) x xs

below_yes : (s : ℕ) (x : Arc) (xs : List Arc) → x.tail < s → below s (x ∷ xs) ≡ suc (below s xs)
below_yes s x xs lt = let e = lt-ltb x.tail s lt in below_cons s x xs ∙ rw e (omega arith)

below_no : (s : ℕ) (x : Arc) (xs : List Arc) → s ≤ x.tail → below s (x ∷ xs) ≡ below s xs
below_no s x xs le = let e = le-ltb x.tail s le in below_cons s x xs ∙ rw e (omega arith)

-- where no arc has a lower tail than x, and x none below s, none is below s
none_below : (s t : ℕ) (xs : List Arc) → s ≤ t → AllByRecursion (λ arc. t ≤ arc.tail) xs → below s xs ≡ 0
none_below s t [] le all = refl
none_below s t (x ∷ xs) le all = below_no s x xs (omega (arith, le, all.0)) ∙ none_below s t xs le all.1

none_at : (s t : ℕ) (xs : List Arc) → s < t → AllByRecursion (λ arc. t ≤ arc.tail) xs → filter (λ arc. arc.tail == s) xs ≡ []
none_at s t [] lt all = refl
none_at s t (x ∷ xs) lt all = let e = ne_eqb x.tail s (λ same. omega (arith, lt, same, all.0)) in rw e (none_at s t xs lt all.1)

below_grows : (s : ℕ) (x : Arc) (xs : List Arc) → below s xs ≤ below s (x ∷ xs)
below_grows s x xs = elim (cases_lt x.tail s) [
  | inl lt ↦ omega (arith, below_yes s x xs lt)
  | inr le ↦ omega (arith, below_no s x xs le)
]

pub fewer_below : (s : ℕ) (xs : List Arc) → below s xs ≤ below (s + 1) xs
fewer_below s [] = omega arith
fewer_below s (x ∷ xs) = elim (cases_lt x.tail s) [
  | inl lt ↦ omega (arith, below_yes s x xs lt, below_yes (s + 1) x xs (omega (arith, lt)), fewer_below s xs)
  | inr le ↦ omega (arith, below_no s x xs le, below_grows (s + 1) x xs, fewer_below s xs)
]

pub at_most_all : (s : ℕ) (xs : List Arc) → below s xs ≤ length xs
at_most_all s [] = omega arith
at_most_all s (x ∷ xs) = elim (cases_lt x.tail s) [
  | inl lt ↦ omega (arith, below_yes s x xs lt, at_most_all s xs)
  | inr le ↦ omega (arith, below_no s x xs le, at_most_all s xs)
]

-- the arcs from one count up to another are those of s
AreOf : ℕ → List Arc → ℕ → ℕ → Type 0
AreOf s xs from to = take (to - from) (drop from xs) ≡ filter (λ arc. arc.tail == s) xs

later : (s : ℕ) (x : Arc) (xs : List Arc) (from to : ℕ) → (x.tail == s) ≡ false → AreOf s xs from to → AreOf s (x ∷ xs) (suc from) (suc to)
unfolding AreOf
later s x xs from to other rest = rw other (subst (λ (n : ℕ). take n (drop from xs) ≡ filter (λ arc. arc.tail == s) xs) (omega arith) rest)

here : (s : ℕ) (x : Arc) (xs : List Arc) (to : ℕ) → (x.tail == s) ≡ true → AreOf s xs 0 to → AreOf s (x ∷ xs) 0 (suc to)
unfolding AreOf
here s x xs to same rest =
    let one_more : suc (to - 0) ≡ suc to - 0 = omega arith in
    subst (λ (n : ℕ). take n (x ∷ xs) ≡ filter (λ arc. arc.tail == s) (x ∷ xs)) one_more (rw same (ap (λ (ys : List Arc). x ∷ ys) rest))

nowhere : (s : ℕ) (x : Arc) (xs : List Arc) → (x.tail == s) ≡ false → filter (λ arc. arc.tail == s) xs ≡ [] → AreOf s (x ∷ xs) 0 0
unfolding AreOf
nowhere s x xs other none = rw other (sym none)

moved : (s : ℕ) (xs : List Arc) (from to from' to' : ℕ) → from' ≡ from → to' ≡ to → AreOf s xs from to → AreOf s xs from' to'
moved s xs from to from' to' e h are = subst (λ (n : ℕ). AreOf s xs n to') (sym e) (subst (λ (n : ℕ). AreOf s xs from n) (sym h) are)

bounded : (s : ℕ) (xs : List Arc) → Climbs xs → AreOf s xs (below s xs) (below (s + 1) xs)
unfolding AreOf
bounded s [] climb = refl
bounded s (x ∷ xs) climb = elim (cases_lt x.tail s) [
  | inl lt ↦
      let other : (x.tail == s) ≡ false = ne_eqb x.tail s (λ same. omega (arith, same, lt)) in
      moved s (x ∷ xs) (suc (below s xs)) (suc (below (s + 1) xs)) (below s (x ∷ xs)) (below (s + 1) (x ∷ xs)) (below_yes s x xs lt) (below_yes (s + 1) x xs (omega (arith, lt)))
      (later s x xs (below s xs) (below (s + 1) xs) other (bounded s xs climb.1))
  | inr le ↦ elim (eqb_tells x.tail s) [
    | inl same ↦
        let none : below s xs ≡ 0 = none_below s x.tail xs le climb.0 in
        let rest = moved s xs (below s xs) (below (s + 1) xs) 0 (below (s + 1) xs) (sym none) refl (bounded s xs climb.1) in
        moved s (x ∷ xs) 0 (suc (below (s + 1) xs)) (below s (x ∷ xs)) (below (s + 1) (x ∷ xs)) (below_no s x xs le ∙ none) (below_yes (s + 1) x xs (omega (arith, same.1)))
        (here s x xs (below (s + 1) xs) same.0 rest)
    | inr other ↦
        let lt : s < x.tail = omega (arith, le, other.1) in
        moved s (x ∷ xs) 0 0 (below s (x ∷ xs)) (below (s + 1) (x ∷ xs)) (below_no s x xs le ∙ none_below s x.tail xs le climb.0)
        (below_no (s + 1) x xs (omega (arith, lt)) ∙ none_below (s + 1) x.tail xs (omega (arith, lt)) climb.0)
        (nowhere s x xs other.0 (none_at s x.tail xs lt climb.0))
  ]
]

pub arcs_of_node : (s : ℕ) (xs : List Arc) → Climbs xs → take (below (s + 1) xs - below s xs) (drop (below s xs) xs) ≡ filter (λ arc. arc.tail == s) xs
unfolding AreOf
arcs_of_node s xs climb = bounded s xs climb

-- an arc at a place beyond that of the last one below s
pub none_further : (s : ℕ) (xs : List Arc) (at : ℕ) (d : Arc) → Climbs xs → at < length xs → s ≤ (get_or xs at d).tail → below s xs ≤ at
none_further s [] at d climb lt le = omega arith
none_further s (x ∷ xs) zero d climb lt le = omega (arith, below_no s x xs le, none_below s x.tail xs le climb.0)
none_further s (x ∷ xs) (suc at) d climb lt le = elim (cases_lt x.tail s) [
  | inl low ↦ omega (arith, below_yes s x xs low, none_further s xs at d climb.1 (omega arith) le)
  | inr high ↦ omega (arith, below_no s x xs high, none_further s xs at d climb.1 (omega arith) le)
]

later_tail : (x : Arc) (xs : List Arc) (at : ℕ) (d : Arc) → AllByRecursion (λ arc. x.tail ≤ arc.tail) xs → at < length xs → x.tail ≤ (get_or xs at d).tail
later_tail x [] at d all lt = absurd (omega arith)
later_tail x (y ∷ ys) zero d all lt = all.0
later_tail x (y ∷ ys) (suc at) d all lt = later_tail x ys at d all.1 (omega arith)

pub one_further : (s : ℕ) (xs : List Arc) (at : ℕ) (d : Arc) → Climbs xs → at < length xs → (get_or xs at d).tail < s → at < below s xs
one_further s [] at d climb lt low = absurd (omega arith)
one_further s (x ∷ xs) zero d climb lt low = omega (arith, below_yes s x xs low)
one_further s (x ∷ xs) (suc at) d climb lt low =
    let first : x.tail < s = omega (arith, low, later_tail x xs at d climb.0 (omega arith)) in
    omega (arith, below_yes s x xs first, one_further s xs at d climb.1 (omega arith) low)

length-starts_to : (n : ℕ) (xs : List Arc) → length (starts_to n xs) ≡ n
length-starts_to zero xs = refl
length-starts_to (suc n) xs = length-append (starts_to n xs) (below n xs ∷ []) ∙ omega (arith, length-starts_to n xs)

start_at : (n s : ℕ) (xs : List Arc) → s < n → get_or (starts_to n xs) s 0 ≡ below s xs
start_at zero s xs lt = absurd (omega arith)
start_at (suc n) s xs lt = elim (cases_lt s n) [
  | inl low ↦ get_or_append_left (starts_to n xs) (below n xs ∷ []) 0 s (omega (arith, low, length-starts_to n xs)) ∙ start_at n s xs low
  | inr high ↦
      let same : length (starts_to n xs) ≡ s = omega (arith, lt, high, length-starts_to n xs) in
      let there : n ≡ s = omega (arith, lt, high) in
      get_or-append_right (starts_to n xs) (below n xs ∷ []) s s 0 same (omega arith)
      ∙ ap (λ (k : ℕ). get_or (below n xs ∷ []) k 0) (nothing s)
      ∙ ap (λ (k : ℕ). below k xs) there
]
  where
    nothing : (k : ℕ) → k - k ≡ 0
    nothing k = omega arith

pub are_starts : (count : ℕ) (xs : List Arc) (starts : List ℕ) → starts ≡ starts_to (count + 1) xs → AreStarts count xs starts
are_starts count xs starts e = record {
  one_each = ap length e ∙ length-starts_to (count + 1) xs;
  lower = λ s le. ap (λ (ys : List ℕ). get_or ys s 0) e ∙ start_at (count + 1) s xs (omega (arith, le));
}
