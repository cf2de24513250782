-- Where the entries of a way stand among entries that are ordered to be paired.
use Rattle.std.proofs.Common.{◌≡◌, ◌∙◌, ◌≤◌, ◌<◌, ◌==◌, ◌&&◌, ◌⊎◌, ℕ, zero, suc, Bool, true, false, List, [], ◌∷◌, length, get_or, refl, sym, ap, inl, inr, arith}
use Rattle.std.specs.declared.cmp.Ordering.TheVariants.{Equal}
use Rattle.std.specs.Cmp.{nat_cmp_is}
use Rattle.std.specs.List.{AllByRecursion, list_any}
use Rattle.std.specs.List.Sorted.{IsSorted, IsPartitionedBy}
use Rattle.std.specs.Ordering.{is_lt, nat_cmp, ordering_then}
use Rattle.std.specs.Prelude.{nat_lt}
use Rattle.std.proofs.lemmas.Bool.{and_parts, and_cases, and_from, or_cases, or_parts, or_left, or_right, ltb-true, ltb-false, lt-ltb, eqb-true, eqb-false, eq-eqb, cases_Bool, cases_lt, false_from_ne_true, both_ways}
use Rattle.std.proofs.lemmas.List.{get_or_default}
use Rattle.std.proofs.lemmas.List.Elements.{recursion_from_All}
use Rattle.std.proofs.lemmas.List.Sorted.{sorted_far}
use Rattle.std.proofs.lemmas.Map.Keys.{ge_from_not_lt}
use Rattle.mrt_graph.proofs.InOrder.{before_ranks, is_before}
use Rattle.mrt_graph.proofs.Ties.{first_not_lt, second_not_lt}
use Rattle.area_graph.specs.declared.entry.NumberedEntry.{NumberedEntry as Entry}
use Rattle.area_graph.specs.steps.NumberedArcs.{answers, is_arc, pairing_cmp}
use Rattle.area_graph.specs.steps.EntryOrder.{is_before_ends, IsFirstOf}
use Rattle.area_graph.proofs.Apart.{pairing_total}

-- the way from one node to another does not stand after that of another pair of nodes
abbrev pub IsWayUpto : ℕ → ℕ → ℕ → ℕ → Type 0
IsWayUpto tail far tail' far' = (tail < tail') ⊎ ((tail ≡ tail') × (far ≤ far'))

abbrev pub IsWayBelow : ℕ → ℕ → ℕ → ℕ → Type 0
IsWayBelow tail far tail' far' = (tail < tail') ⊎ ((tail ≡ tail') × (far < far'))

pub upto_from_not_lt : (tail far tail' far' : ℕ) → is_lt (ordering_then (nat_cmp tail' tail) (nat_cmp far' far)) ≡ false → IsWayUpto tail far tail' far'
upto_from_not_lt tail far tail' far' not_lt =
    let le : tail ≤ tail' = ge_from_not_lt tail' tail (first_not_lt (nat_cmp tail' tail) (nat_cmp far' far) not_lt) in
    elim (cases_lt tail tail') [
      | inl below ↦ inl below
      | inr above ↦
          let same : tail ≡ tail' = omega arith in
          let tie : nat_cmp tail' tail ≡ Equal = sym (nat_cmp_is tail' tail Equal (sym same)) in
          inr (same, ge_from_not_lt far' far (second_not_lt (nat_cmp tail' tail) (nat_cmp far' far) tie not_lt))
    ]

pub upto_from_order : (x y : Entry) → is_before pairing_cmp y x ≡ false → IsWayUpto x.tail x.far y.tail y.far
upto_from_order x y not_lt =
    let three = first_not_lt (ordering_then (ordering_then (nat_cmp y.tail x.tail) (nat_cmp y.far x.far)) (nat_cmp y.link_data x.link_data)) (nat_cmp y.place x.place) not_lt in
    let two = first_not_lt (ordering_then (nat_cmp y.tail x.tail) (nat_cmp y.far x.far)) (nat_cmp y.link_data x.link_data) three in
    upto_from_not_lt x.tail x.far y.tail y.far two

-- ways climb
pub ways_climb : (xs : List Entry) → IsSorted pairing_cmp xs → (i j : ℕ) (d : Entry) → i ≤ j → j < length xs
    → IsWayUpto (get_or xs i d).tail (get_or xs i d).far (get_or xs j d).tail (get_or xs j d).far
ways_climb xs sorted i j d le within =
    upto_from_order (get_or xs i d) (get_or xs j d) (sorted_far (is_before pairing_cmp) (before_ranks pairing_cmp pairing_total) xs sorted i j d le within)

pub below_from_true : (tail far : ℕ) (e : Entry) → is_before_ends tail far e ≡ true → IsWayBelow e.tail e.far tail far
below_from_true tail far e h =
    elim (or_cases (nat_lt e.tail tail) ((e.tail == tail) && nat_lt e.far far) h) [
      | inl lower ↦ inl (ltb-true e.tail tail lower)
      | inr same ↦
          let parts = and_parts (e.tail == tail) (nat_lt e.far far) same in
          inr (eqb-true e.tail tail parts.0, ltb-true e.far far parts.1)
    ]

pub true_from_below : (tail far : ℕ) (e : Entry) → IsWayBelow e.tail e.far tail far → is_before_ends tail far e ≡ true
true_from_below tail far e below =
    elim below [
      | inl lower ↦ or_left (nat_lt e.tail tail) ((e.tail == tail) && nat_lt e.far far) (lt-ltb e.tail tail lower)
      | inr same ↦
          or_right (nat_lt e.tail tail) ((e.tail == tail) && nat_lt e.far far)
          (and_from (e.tail == tail) (nat_lt e.far far) (eq-eqb e.tail tail same.0) (lt-ltb e.far far same.1))
    ]

pub upto_from_false : (tail far : ℕ) (e : Entry) → is_before_ends tail far e ≡ false → IsWayUpto tail far e.tail e.far
upto_from_false tail far e h =
    let parts = or_parts (nat_lt e.tail tail) ((e.tail == tail) && nat_lt e.far far) h in
    let le : tail ≤ e.tail = ltb-false e.tail tail parts.0 in
    elim (cases_lt tail e.tail) [
      | inl lower ↦ inl lower
      | inr above ↦
          let same : e.tail ≡ tail = omega arith in
          elim (and_cases (e.tail == tail) (nat_lt e.far far) parts.1) [
            | inl differs ↦ absurd (eqb-false e.tail tail differs same)
            | inr not_lower ↦ inr (sym same, ltb-false e.far far not_lower)
          ]
    ]

below_through : (t f t' f' tail far : ℕ) → IsWayUpto t f t' f' → IsWayBelow t' f' tail far → IsWayBelow t f tail far
below_through t f t' f' tail far (inl lower) (inl lower') = inl (omega arith)
below_through t f t' f' tail far (inl lower) (inr same') = inl (omega arith)
below_through t f t' f' tail far (inr same) (inl lower') = inl (omega arith)
below_through t f t' f' tail far (inr same) (inr same') = inr (omega arith, omega arith)

-- a way between a way and itself is that way
pub squeezed : (tail far t f t' f' : ℕ) → IsWayUpto tail far t f → IsWayUpto t f t' f' → t' ≡ tail → f' ≡ far → (t ≡ tail) × (f ≡ far)
squeezed tail far t f t' f' (inl lower) (inl lower') at_tail at_far = absurd (omega arith)
squeezed tail far t f t' f' (inl lower) (inr same') at_tail at_far = absurd (omega arith)
squeezed tail far t f t' f' (inr same) (inl lower') at_tail at_far = absurd (omega arith)
squeezed tail far t f t' f' (inr same) (inr same') at_tail at_far = (omega arith, omega arith)

-- what stands before a way stands before what does not
pub partitioned : (tail far : ℕ) (xs : List Entry) → IsSorted pairing_cmp xs → IsPartitionedBy (is_before_ends tail far) xs
partitioned tail far xs sorted = λ i j d le within passes.
    true_from_below tail far (get_or xs i d)
    (below_through (get_or xs i d).tail (get_or xs i d).far (get_or xs j d).tail (get_or xs j d).far tail far (ways_climb xs sorted i j d le within) (below_from_true tail far (get_or xs j d) passes))

-- an entry leads back
pub answers_parts : (e back : Entry) → answers e back ≡ true → (back.tail ≡ e.far) × (back.far ≡ e.tail)
answers_parts e back h =
    let parts = and_parts (back.tail == e.far) (back.far == e.tail) h in (eqb-true back.tail e.far parts.0, eqb-true back.far e.tail parts.1)

pub answers_from : (e back : Entry) → back.tail ≡ e.far → back.far ≡ e.tail → answers e back ≡ true
answers_from e back tail far = and_from (back.tail == e.far) (back.far == e.tail) (eq-eqb back.tail e.far tail) (eq-eqb back.far e.tail far)

any_at : {X : Type 0} (p : X → Bool) (xs : List X) (k : ℕ) (d : X) → k < length xs → p (get_or xs k d) ≡ true → list_any p xs ≡ true
any_at p [] k d within passes = absurd (omega arith)
any_at p (x ∷ xs) zero d within passes = or_left (p x) (list_any p xs) passes
any_at p (x ∷ xs) (suc k) d within passes = or_right (p x) (list_any p xs) (any_at p xs k d (omega arith) passes)

none_any : {X : Type 0} (p : X → Bool) (xs : List X) → AllByRecursion (λ x. p x ≡ false) xs → list_any p xs ≡ false
none_any p [] none = refl
none_any p (x ∷ xs) none = rw none.0 (none_any p xs none.1)

-- of a way none is there where none stands at its first place
none_of_way : (tail far : ℕ) (xs : List Entry) (first : ℕ) → IsSorted pairing_cmp xs → IsFirstOf tail far xs first
    → ((d : Entry) → first < length xs → (get_or xs first d).tail ≡ tail → (get_or xs first d).far ≡ far → ⊥)
    → (k : ℕ) (d : Entry) → k < length xs → (get_or xs k d).tail ≡ tail → (get_or xs k d).far ≡ far → ⊥
none_of_way tail far xs first sorted is_first not_first k d within at_tail at_far =
    elim (cases_lt k first) [
      | inl before ↦
          let below = below_from_true tail far (get_or xs k d) (is_first.below k d (omega arith) before) in
          elim below [ inl lower ↦ omega (arith, lower, at_tail) | inr same ↦ omega (arith, same.1, at_far) ]
      | inr after ↦
          let up = upto_from_false tail far (get_or xs first d) (is_first.above first d (omega arith) (omega arith)) in
          let climb = ways_climb xs sorted first k d after within in
          let same : ((get_or xs first d).tail ≡ tail) × ((get_or xs first d).far ≡ far) =
          squeezed tail far (get_or xs first d).tail (get_or xs first d).far (get_or xs k d).tail (get_or xs k d).far up climb at_tail at_far in
          not_first d (omega arith) same.0 same.1
    ]

-- where no entry leads back
none_answers : (xs : List Entry) (e : Entry) (first : ℕ) → IsSorted pairing_cmp xs → IsFirstOf e.far e.tail xs first
    → ((d : Entry) → first < length xs → (get_or xs first d).tail ≡ e.far → (get_or xs first d).far ≡ e.tail → ⊥) → is_arc xs e ≡ false
none_answers xs e first sorted is_first not_first =
    none_any (answers e) xs (recursion_from_All (λ y. answers e y ≡ false) xs
    (λ k d within. false_from_ne_true (answers e (get_or xs k d))
    (λ also. let parts = answers_parts e (get_or xs k d) also in none_of_way e.far e.tail xs first sorted is_first not_first k d within parts.0 parts.1)))

pub is_arc_past : (xs : List Entry) (e : Entry) (first : ℕ) → IsSorted pairing_cmp xs → IsFirstOf e.far e.tail xs first → length xs ≤ first → false ≡ is_arc xs e
is_arc_past xs e first sorted is_first past = sym (none_answers xs e first sorted is_first (λ d within tail far. omega arith))

pub is_arc_at : (xs : List Entry) (e : Entry) (first : ℕ) (back : Entry) → IsSorted pairing_cmp xs → IsFirstOf e.far e.tail xs first → first < length xs
    → back ≡ get_or xs first back → answers e back ≡ is_arc xs e
is_arc_at xs e first back sorted is_first within is =
    elim (cases_Bool (answers e back)) [
      | inl does ↦ does ∙ sym (any_at (answers e) xs first back within (rw (← is) does))
      | inr fails ↦
          fails ∙ sym (none_answers xs e first sorted is_first
          (λ d _ tail far.
          let read : get_or xs first d ≡ back = get_or_default xs first d back within ∙ sym is in
          both_ways (answers e back) fails (answers_from e back (ap (λ (x : Entry). x.tail) (sym read) ∙ tail) (ap (λ (x : Entry). x.far) (sym read) ∙ far))))
    ]
