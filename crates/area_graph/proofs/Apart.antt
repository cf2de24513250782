-- Entries of which no two have one node and one place in its LSA: in whatever order they stand, and which of them tie.
use Rattle.std.proofs.Common.{◌≡◌, ◌∙◌, ◌≤◌, ◌<◌, ◌==◌, ℕ, suc, Bool, true, false, cond, List, [], ◌∷◌, length, get_or, take, refl, sym, ap, inl, inr, arith}
use Rattle.std.specs.declared.cmp.Ordering.{Ordering}
use Rattle.std.specs.declared.cmp.Ordering.TheVariants.{Equal}
use Rattle.std.specs.Cmp.{IsTotalOrder}
use Rattle.std.specs.List.{AllByRecursion, Contains, filter, count_by}
use Rattle.std.specs.List.Sorted.{IsSorted, IsPermutation}
use Rattle.std.specs.Ordering.{nat_cmp, ordering_then}
use Rattle.std.proofs.lemmas.Bool.{and_parts, and_from, eqb-true, eq-eqb, cases_Bool, false_from_ne_true, both_ways}
use Rattle.std.proofs.lemmas.Cmp.{nat_cmp_total, on_total, then_total}
use Rattle.std.proofs.lemmas.List.{get_or-take, length-take-le}
use Rattle.std.proofs.lemmas.List.Elements.{recursion_from_All, filter_agree}
use Rattle.std.proofs.lemmas.List.Sorted.{IsPermutation-sym, list_any-IsPermutation, sum_by-IsPermutation}
use Rattle.std.proofs.lemmas.List.Sums.{sum_by_more_le, get_or-le-sum_by}
use Rattle.mrt_graph.specs.InOrder.{in_order}
use Rattle.mrt_graph.proofs.InOrder.{OnlyEqualsTie, in_order_moves, in_order_sorted}
use Rattle.mrt_graph.proofs.Members.{Has, all_has, has_from_contains}
use Rattle.mrt_graph.proofs.Tallies.{count_is_tally, one_if, tally, tally_filtered, tally_none, tally_same, tally_some}
use Rattle.mrt_graph.proofs.Filters.{filter-in_order}
use Rattle.mrt_graph.proofs.Ties.{nat_tie, then_tie}
use Rattle.area_graph.specs.declared.entry.NumberedEntry.{NumberedEntry as Entry}
use Rattle.area_graph.specs.steps.NumberedArcs.{answers, is_arc, arc_cmp, pairing_cmp, arcs_among}
use Rattle.area_graph.specs.steps.NumberedBonds.{same_entry}
use Rattle.area_graph.specs.steps.Listed.{AreApart}

pub pairing_total : IsTotalOrder pairing_cmp
pairing_total =
    then_total (then_total (then_total (on_total (λ (arc : Entry). arc.tail) nat_cmp_total) (on_total (λ (arc : Entry). arc.far) nat_cmp_total))
    (on_total (λ (arc : Entry). arc.link_data) nat_cmp_total)) (on_total (λ (arc : Entry). arc.place) nat_cmp_total)

pub arc_total : IsTotalOrder arc_cmp
arc_total =
    then_total (then_total (then_total (then_total (on_total (λ (arc : Entry). arc.tail) nat_cmp_total) (on_total (λ (arc : Entry). arc.metric) nat_cmp_total))
    (on_total (λ (arc : Entry). arc.far) nat_cmp_total)) (on_total (λ (arc : Entry). arc.link_data) nat_cmp_total)) (on_total (λ (arc : Entry). arc.place) nat_cmp_total)

-- one entry has one tail and one place
pub same_parts : (x y : Entry) → same_entry x y ≡ true → (y.tail ≡ x.tail) × (y.place ≡ x.place)
same_parts x y same =
    let parts = and_parts (y.tail == x.tail) (y.place == x.place) same in (eqb-true y.tail x.tail parts.0, eqb-true y.place x.place parts.1)

pub same_from : (x y : Entry) → y.tail ≡ x.tail → y.place ≡ x.place → same_entry x y ≡ true
same_from x y tail place = and_from (y.tail == x.tail) (y.place == x.place) (eq-eqb y.tail x.tail tail) (eq-eqb y.place x.place place)

pub same_itself : (x : Entry) → same_entry x x ≡ true
same_itself x = same_from x x refl refl

pub same_through : (x y z : Entry) → same_entry x y ≡ true → same_entry x z ≡ true → same_entry y z ≡ true
same_through x y z xy xz =
    let one = same_parts x y xy in let other = same_parts x z xz in same_from y z (other.0 ∙ sym one.0) (other.1 ∙ sym one.1)

pub apart_later : (x : Entry) (xs : List Entry) → AreApart (x ∷ xs) → AreApart xs
apart_later x xs apart = λ j k d below within. apart (suc j) (suc k) d (omega arith) (omega arith)

-- no two of these are one entry
abbrev pub Once : List Entry → Type 0
Once xs = (entry : Entry) → tally (same_entry entry) xs ≤ 1

pub once_from_apart : (xs : List Entry) → AreApart xs → Once xs
once_from_apart [] apart = λ entry. omega arith
once_from_apart (x ∷ xs) apart = λ entry. elim (cases_Bool (same_entry entry x)) [
  | inl same ↦
      let others : AllByRecursion (λ y. same_entry x y ≡ false) xs =
      recursion_from_All (λ y. same_entry x y ≡ false) xs (λ k d within. apart 0 (suc k) d (omega arith) (omega arith)) in
      let none : tally (same_entry entry) xs ≡ 0 = tally_none (same_entry entry) xs (λ y has. false_from_ne_true (same_entry entry y)
      (λ also. both_ways (same_entry x y) (all_has (λ z. same_entry x z ≡ false) xs y others has) (same_through entry x y same also))) in
      let first : one_if (same_entry entry x) ≡ 1 = ap one_if same in
      omega (arith, none, first)
  | inr other ↦
      let first : one_if (same_entry entry x) ≡ 0 = ap one_if other in
      omega (arith, first, once_from_apart xs (apart_later x xs apart) entry)
]

-- members that are one entry are one
pub one_member : (xs : List Entry) (x y : Entry) → Once xs → Has xs x → Has xs y → same_entry x y ≡ true → x ≡ y
one_member xs x y once has_x has_y same = tally_same (same_entry x) xs x y (once x) has_x (same_itself x) has_y same

-- a member counts once
pub count_itself : (xs : List Entry) (x : Entry) → Once xs → Has xs x → tally (same_entry x) xs ≡ 1
count_itself xs x once has = omega (arith, once x, tally_some (same_entry x) xs x has (same_itself x))

two_pass : {X : Type 0} (p : X → Bool) (xs : List X) (j k : ℕ) (d : X) → j < k → k < length xs → p (get_or xs j d) ≡ true → p (get_or xs k d) ≡ true → 2 ≤ count_by p xs
two_pass {X} p xs j k d below within at_j at_k =
    let f : X → ℕ = λ x. cond (p x) 1 0 in
    let long : length (take k xs) ≡ k = length-take-le k xs (omega arith) in
    let read : get_or (take k xs) j d ≡ get_or xs j d = get_or-take k xs j d below in
    let first : one_if (p (get_or (take k xs) j d)) ≡ 1 = rw (read, at_j) refl in
    let second : one_if (p (get_or xs k d)) ≡ 1 = rw at_k refl in
    omega (arith, first, second, get_or-le-sum_by f (take k xs) j d (omega arith), sum_by_more_le f xs k d within)

pub apart_from_once : (xs : List Entry) → Once xs → AreApart xs
apart_from_once xs once = λ j k d below within.
    false_from_ne_true (same_entry (get_or xs j d) (get_or xs k d))
    (λ same. absurd (omega (
      arith,
      once (get_or xs j d),
      count_is_tally (same_entry (get_or xs j d)) xs,
      two_pass (same_entry (get_or xs j d)) xs j k d below within (same_itself (get_or xs j d)) same,
    )))

pub AreApart-permutation : (xs ys : List Entry) → IsPermutation xs ys → AreApart xs → AreApart ys
AreApart-permutation xs ys moves apart =
    apart_from_once ys (λ e. omega (
      arith,
      once_from_apart xs apart e,
      count_is_tally (same_entry e) xs,
      count_is_tally (same_entry e) ys,
      sum_by-IsPermutation (λ y. cond (same_entry e y) 1 0) xs ys moves,
    ))

pub AreApart-filter : (p : Entry → Bool) (xs : List Entry) → AreApart xs → AreApart (filter p xs)
AreApart-filter p xs apart = apart_from_once (filter p xs) (λ e. omega (arith, once_from_apart xs apart e, tally_filtered (same_entry e) p xs))

-- of entries that are apart one is equal to another where they have one node and one place
same_in : (xs : List Entry) → AreApart xs → (x y : Entry) → Contains xs x → Contains xs y → same_entry x y ≡ true → x ≡ y
same_in xs apart x y in_x in_y same = one_member xs x y (once_from_apart xs apart) (has_from_contains xs x in_x) (has_from_contains xs y in_y) same

pub pairing_tie : (x y : Entry) → pairing_cmp x y ≡ Equal → same_entry x y ≡ true
pairing_tie x y tie =
    let all = then_tie (ordering_then (ordering_then (nat_cmp x.tail y.tail) (nat_cmp x.far y.far)) (nat_cmp x.link_data y.link_data)) (nat_cmp x.place y.place) tie in
    let three = then_tie (ordering_then (nat_cmp x.tail y.tail) (nat_cmp x.far y.far)) (nat_cmp x.link_data y.link_data) all.0 in
    let two = then_tie (nat_cmp x.tail y.tail) (nat_cmp x.far y.far) three.0 in
    same_from x y (sym (nat_tie x.tail y.tail two.0)) (sym (nat_tie x.place y.place all.1))

pub arc_tie : (x y : Entry) → arc_cmp x y ≡ Equal → same_entry x y ≡ true
arc_tie x y tie =
    let all = then_tie (ordering_then (ordering_then (ordering_then (nat_cmp x.tail y.tail) (nat_cmp x.metric y.metric)) (nat_cmp x.far y.far)) (nat_cmp x.link_data y.link_data)) (nat_cmp x.place y.place) tie in
    let four = then_tie (ordering_then (ordering_then (nat_cmp x.tail y.tail) (nat_cmp x.metric y.metric)) (nat_cmp x.far y.far)) (nat_cmp x.link_data y.link_data) all.0 in
    let three = then_tie (ordering_then (nat_cmp x.tail y.tail) (nat_cmp x.metric y.metric)) (nat_cmp x.far y.far) four.0 in
    let two = then_tie (nat_cmp x.tail y.tail) (nat_cmp x.metric y.metric) three.0 in
    same_from x y (sym (nat_tie x.tail y.tail two.0)) (sym (nat_tie x.place y.place all.1))

pub pairing_ties_alone : (xs : List Entry) → AreApart xs → OnlyEqualsTie pairing_cmp xs xs
pairing_ties_alone xs apart = record { same = λ x y in_x in_y tie. same_in xs apart x y in_x in_y (pairing_tie x y tie) }

pub arc_ties_alone : (xs : List Entry) → AreApart xs → OnlyEqualsTie arc_cmp xs xs
arc_ties_alone xs apart = record { same = λ x y in_x in_y tie. same_in xs apart x y in_x in_y (arc_tie x y tie) }

pub AreApart-in_order : (cmp : Entry → Entry → Ordering) (xs : List Entry) → AreApart xs → AreApart (in_order cmp xs)
AreApart-in_order cmp xs apart = AreApart-permutation xs (in_order cmp xs) (in_order_moves cmp xs) apart

-- what the arcs among entries are
pub arcs_sorted : (all : List Entry) → IsSorted pairing_cmp (arcs_among all)
arcs_sorted all = in_order_sorted pairing_cmp pairing_total (filter (is_arc all) all)

pub arcs_apart : (all : List Entry) → AreApart all → AreApart (arcs_among all)
arcs_apart all apart = AreApart-in_order pairing_cmp (filter (is_arc all) all) (AreApart-filter (is_arc all) all apart)

-- the arcs among entries that are put in order first
pub arcs_in_order : (all : List Entry) → AreApart all → filter (is_arc (in_order pairing_cmp all)) (in_order pairing_cmp all) ≡ arcs_among all
arcs_in_order all apart =
    filter_agree (is_arc (in_order pairing_cmp all)) (is_arc all)
    (λ e. list_any-IsPermutation (answers e) (in_order pairing_cmp all) all (IsPermutation-sym all (in_order pairing_cmp all) (in_order_moves pairing_cmp all)))
    (in_order pairing_cmp all)
    ∙ filter-in_order pairing_cmp pairing_total (is_arc all) all (pairing_ties_alone all apart)
