-- Of elements that tie in one order those that are first in another, when both orders sort the list.
use Rattle.std.proofs.Common.{◌≡◌, ◌∙◌, ◌<◌, ◌+◌, ◌&&◌, ◌||◌, ℕ, Bool, true, false, not, cond, ltb, List, [], ◌∷◌, ◌⊎◌, get_or, refl, sym, ap, subst, inl, inr, arith}
use Rattle.std.specs.declared.cmp.Ordering.{Ordering}
use Rattle.std.specs.declared.cmp.Ordering.TheVariants.{Less, Equal, Greater}
use Rattle.std.specs.Cmp.{IsTotalOrder, nat_cmp_is}
use Rattle.std.specs.List.{AllByRecursion, Contains, IsDistinct, filter, list_any, sum_by, dedup, dedup_from}
use Rattle.std.specs.List.Sorted.{IsSorted, IsPermutation, IsStrictlySortedBy}
use Rattle.std.specs.Ordering.{is_eq, is_lt, nat_cmp, on, flip_args, eq_by_cmp, then_cmp, ordering_then, ordering_reverse}
use Rattle.std.proofs.lemmas.Bool.{lt-ltb, le-ltb, ltb-true, cases_order, not-true, and_parts, and_from, or_from}
use Rattle.std.proofs.lemmas.Cmp.{nat_cmp_total, on_total, then_total, back_total, tied_back, alike_right, eq_by_cmp_equiv, ranked}
use Rattle.std.proofs.lemmas.List.{get_or_default}
use Rattle.std.proofs.lemmas.List.Elements.{All-contains, filter_agree, filter_passes}
use Rattle.std.proofs.lemmas.List.Folds.{list_any_at}
use Rattle.std.proofs.lemmas.List.Kept.{IsStrictlySortedBy-dedup}
use Rattle.std.proofs.lemmas.List.Sorted.{list_any-IsPermutation, IsPermutation-sym, Contains-permutation}
use Rattle.std.proofs.lemmas.Map.Keys.{apart_from_distinct, IsDistinct-IsPermutation, sorted_from_all_adjacent, sorted_head, sorted_tail}
use Rattle.mrt_graph.specs.InOrder.{in_order}
use Rattle.mrt_graph.proofs.InOrder.{AreAlike, Contains-from_in_order, OnlyEqualsTie, Rises, in_order_rises, is_before, one_order, sum_by-in_order}
use Rattle.mrt_graph.proofs.Filters.{Contains-from_filter, alike_filter, filter_agree_in}

-- whether the second ties with the first in the main order, and has the greater number
abbrev pub is_over : {X : Type 0} → (X → X → Ordering) → (X → ℕ) → X → X → Bool
is_over main number x y = eq_by_cmp main x y && ltb (number x) (number y)

abbrev pub none_over : {X : Type 0} → (X → X → Ordering) → (X → ℕ) → List X → X → Bool
none_over main number xs x = not (list_any (is_over main number x) xs)

-- the main order, and of elements that tie the greatest number first
abbrev pub greatest_first : {X : Type 0} → (X → X → Ordering) → (X → ℕ) → X → X → Ordering
greatest_first main number = then_cmp main (flip_args (on number nat_cmp))

pub greatest_first_total : {X : Type 0} (main : X → X → Ordering) (number : X → ℕ) → IsTotalOrder main → IsTotalOrder (greatest_first main number)
greatest_first_total main number total = then_total total (back_total (on_total number nat_cmp_total))

-- ---- filters

pub passes_in_filter : {X : Type 0} (p : X → Bool) (xs : List X) (x : X) → Contains (filter p xs) x → p x ≡ true
passes_in_filter p xs x there = All-contains (λ y. p y ≡ true) (filter p xs) x (filter_passes p xs) there

-- ---- elements that differ in place

less_by : (o : Ordering) → is_lt (ordering_reverse o) ≡ false → is_eq o ≡ false → o ≡ Less
less_by Less back apart = refl
less_by Equal back apart = absurd cc
less_by Greater back apart = absurd cc

-- a sorted list of elements that do not tie is strictly sorted
pub strict_from_sorted : {X : Type 0} (cmp : X → X → Ordering) → IsTotalOrder cmp → (xs : List X) → X → IsSorted cmp xs → IsDistinct (eq_by_cmp cmp) xs → IsStrictlySortedBy cmp xs
strict_from_sorted cmp total xs d sorted apart =
    sorted_from_all_adjacent total xs d (λ k within.
    less_by _ (ap is_lt (sym (total.antisymm (get_or xs (k + 1) d) (get_or xs k d))) ∙ sorted k d (omega arith) within)
    (apart_from_distinct (eq_by_cmp cmp) xs k (k + 1) d apart (omega arith) within))

-- elements that tie stand at one place, so they are one
pub one_of_ties : {X : Type 0} (same : X → X → Bool) → ((x y : X) → same x y ≡ same y x) → (xs : List X) → IsDistinct same xs
    → (x y : X) → Contains xs x → Contains xs y → same x y ≡ true → x ≡ y
one_of_ties same flips xs apart x y at_x at_y tie =
    let there : get_or xs at_y.0 x ≡ y = get_or_default xs at_y.0 x y at_y.1 ∙ at_y.2 in
    elim (cases_order at_x.0 at_y.0) [
      | inl one ↦ sym at_x.2 ∙ ap (λ k. get_or xs k x) one ∙ there
      | inr other ↦
          elim other [
            | inl before ↦
                let no : same x y ≡ false = subst (λ z. same z y ≡ false) at_x.2 (subst (λ z. same (get_or xs at_x.0 x) z ≡ false) there
                (apart_from_distinct same xs at_x.0 at_y.0 x apart before at_y.1)) in absurd cc
            | inr after ↦
                let no : same y x ≡ false = subst (λ z. same y z ≡ false) at_x.2 (subst (λ z. same z (get_or xs at_x.0 x) ≡ false) there
                (apart_from_distinct same xs at_y.0 at_x.0 x apart after at_x.1)) in
                let back = flips x y in absurd cc
          ]
    ]

-- ---- the first of each run

none_of_three : (a b c : Bool) → a ≡ false → b ≡ false → c ≡ false → not (a || (b || c)) ≡ true
none_of_three a b c no_a no_b no_c = rw (no_a, no_b, no_c) refl

later_by : (o : Ordering) (m n : ℕ) → ordering_then o (nat_cmp n m) ≡ Less → (o ≡ Less) ⊎ ((o ≡ Equal) × (n < m))
later_by Less m n is = inl refl
later_by Equal m n is = inr (refl, ranked n m Less (sym is))
later_by Greater m n is = absurd cc

strict_cons : {X : Type 0} (cmp : X → X → Ordering) (x : X) (xs : List X) → AllByRecursion (λ y. cmp x y ≡ Less) xs → IsStrictlySortedBy cmp xs
    → IsStrictlySortedBy cmp (x ∷ xs)
unfolding IsStrictlySortedBy
strict_cons cmp x xs below rest = (below, rest)

module _ {X : Type 0} (main : X → X → Ordering) (number : X → ℕ) (total : IsTotalOrder main) where
  later : (x y : X) → greatest_first main number x y ≡ Less → (main x y ≡ Less) ⊎ ((main x y ≡ Equal) × (number y < number x))
  later x y is = later_by (main x y) (number x) (number y) is

  back_greater : (x y : X) → main x y ≡ Less → main y x ≡ Greater
  back_greater x y is = total.antisymm y x ∙ ap ordering_reverse is

  not_over : (x y : X) (o : Ordering) → main x y ≡ o → is_eq o ≡ false → is_over main number x y ≡ false
  not_over x y o is apart = ap (λ (r : Ordering). is_eq r && ltb (number x) (number y)) is ∙ ap (λ (b : Bool). b && ltb (number x) (number y)) apart

  not_over_of_less : (x y : X) → main x y ≡ Less → is_over main number x y ≡ false
  not_over_of_less x y is = not_over x y Less is refl

  not_over_of_greater : (x y : X) → main y x ≡ Less → is_over main number x y ≡ false
  not_over_of_greater x y is = not_over x y Greater (back_greater y x is) refl

  and_false : (b : Bool) → (b && false) ≡ false
  and_false true = refl
  and_false false = refl

  -- no later element is over one
  not_over_later : (x y : X) → greatest_first main number x y ≡ Less → is_over main number x y ≡ false
  not_over_later x y is = elim (later x y is) [
    | inl below ↦ not_over_of_less x y below
    | inr tie ↦ ap (λ (b : Bool). eq_by_cmp main x y && b) (le-ltb (number x) (number y) (omega (arith, tie.1))) ∙ and_false (eq_by_cmp main x y)
  ]

  none_over_later : (x : X) (ys : List X) → AllByRecursion (λ y. greatest_first main number x y ≡ Less) ys → list_any (is_over main number x) ys ≡ false
  none_over_later x [] later = refl
  none_over_later x (y ∷ ys) later = or_from _ _ (not_over_later x y later.0) (none_over_later x ys later.1)

  not_over_itself : (x : X) → is_over main number x x ≡ false
  not_over_itself x = ap (λ (b : Bool). eq_by_cmp main x x && b) (le-ltb (number x) (number x) (omega arith)) ∙ and_false (eq_by_cmp main x x)

  -- what is above x stays above it a step later
  above_of_later : (x y z : X) → main x y ≡ Less → greatest_first main number y z ≡ Less → main x z ≡ Less
  above_of_later x y z xy yz = elim (later y z yz) [
    | inl below ↦ total.trans x y z xy below
    | inr tie ↦ sym (alike_right total y z x tie.0) ∙ xy
  ]

  agree_above : (x y : X) (zs : List X) → main x y ≡ Less → (ws : List X) → AllByRecursion (λ z. greatest_first main number y z ≡ Less) zs
      → AllByRecursion (λ z. none_over main number (y ∷ ws) z ≡ none_over main number (x ∷ y ∷ ws) z) zs
  agree_above x y [] xy ws later = tt
  agree_above x y (z ∷ zs) xy ws later = (
    ap (λ (b : Bool). not (b || (is_over main number z y || list_any (is_over main number z) ws)))
        (sym (not_over_of_greater z x (above_of_later x y z xy later.0))),
    agree_above x y zs xy ws later.1,
  )

  absorbed : (a b c : Bool) → (b ≡ true → a ≡ true) → (a || c) ≡ (a || (b || c))
  absorbed true b c h = refl
  absorbed false true c h = let no = h refl in absurd cc
  absorbed false false c h = refl

  over_both : (x y z : X) → main y x ≡ Equal → number y < number x → is_over main number z y ≡ true → is_over main number z x ≡ true
  over_both x y z tie less over =
      let parts = and_parts (eq_by_cmp main z y) (ltb (number z) (number y)) over in
      and_from _ _ (ap is_eq (sym (alike_right total y x z tie)) ∙ parts.0) (lt-ltb (number z) (number x) (omega (arith, ltb-true (number z) (number y) parts.1, less)))

  agree_tied : (x y : X) (ws : List X) → main y x ≡ Equal → number y < number x → (z : X) → none_over main number (x ∷ ws) z ≡ none_over main number (x ∷ y ∷ ws) z
  agree_tied x y ws tie less z =
      ap not (absorbed (is_over main number z x) (is_over main number z y) (list_any (is_over main number z) ws) (over_both x y z tie less))

  -- what stays of the run of x and of the later ones
  stays : (x : X) (ys : List X) → IsStrictlySortedBy (greatest_first main number) (x ∷ ys)
      → dedup_from (eq_by_cmp main) x ys ≡ x ∷ filter (none_over main number (x ∷ ys)) ys
  stays x [] strict = refl
  stays x (y ∷ ys) strict =
      let heads = sorted_head (greatest_first main number) x (y ∷ ys) strict in
      let rest = sorted_tail (greatest_first main number) x (y ∷ ys) strict in
      elim (later x y heads.0) [
        | inl below ↦
            let apart : eq_by_cmp main y x ≡ false = ap is_eq (back_greater x y below) in
            let kept : none_over main number (x ∷ y ∷ ys) y ≡ true =
            none_of_three _ _ _ (not_over_of_greater y x below) (not_over_itself y) (none_over_later y ys (sorted_head (greatest_first main number) y ys rest)) in
            ap (λ (b : Bool). cond b (dedup_from (eq_by_cmp main) x ys) (x ∷ dedup_from (eq_by_cmp main) y ys)) apart
            ∙ ap (λ (r : List X). x ∷ r) (stays y ys rest)
            ∙ ap (λ (r : List X). x ∷ y ∷ r)
            (filter_agree_in _ _ ys (agree_above x y ys below ys (sorted_head (greatest_first main number) y ys rest)))
            ∙ sym (ap (λ (b : Bool). x ∷ cond b (y ∷ filter (none_over main number (x ∷ y ∷ ys)) ys) (filter (none_over main number (x ∷ y ∷ ys)) ys)) kept)
        | inr tie ↦
            let back : main y x ≡ Equal = tied_back total x y tie.0 in
            let same : eq_by_cmp main y x ≡ true = ap is_eq back in
            let over : is_over main number y x ≡ true = and_from _ _ same (lt-ltb (number y) (number x) tie.1) in
            let gone : none_over main number (x ∷ y ∷ ys) y ≡ false =
            ap (λ (b : Bool). not (b || (is_over main number y y || list_any (is_over main number y) ys))) over in
            let heads_x : AllByRecursion (λ z. greatest_first main number x z ≡ Less) ys = heads.1 in
            ap (λ (b : Bool). cond b (dedup_from (eq_by_cmp main) x ys) (x ∷ dedup_from (eq_by_cmp main) y ys)) same
            ∙ stays x ys (strict_cons (greatest_first main number) x ys heads_x (sorted_tail (greatest_first main number) y ys rest))
            ∙ ap (λ (r : List X). x ∷ r) (filter_agree _ _ (agree_tied x y ys back tie.1) ys)
            ∙ sym (ap (λ (b : Bool). x ∷ cond b (y ∷ filter (none_over main number (x ∷ y ∷ ys)) ys) (filter (none_over main number (x ∷ y ∷ ys)) ys)) gone)
      ]

  stays_all : (xs : List X) → IsStrictlySortedBy (greatest_first main number) xs → dedup (eq_by_cmp main) xs ≡ filter (none_over main number xs) xs
  stays_all [] strict = refl
  stays_all (x ∷ xs) strict =
      stays x xs strict
      ∙ sym (ap (λ (b : Bool). cond b (x ∷ filter (none_over main number (x ∷ xs)) xs) (filter (none_over main number (x ∷ xs)) xs))
      (ap not (or_from _ _ (not_over_itself x) (none_over_later x xs (sorted_head (greatest_first main number) x xs strict)))))

  -- of the sorted list the first of each run stays: it is not below another of its run
  first_stay : (xs ys : List X) → IsPermutation xs ys → IsStrictlySortedBy (greatest_first main number) ys
      → dedup (eq_by_cmp main) ys ≡ filter (none_over main number xs) ys
  first_stay xs ys moves strict =
      stays_all ys strict
      ∙ filter_agree (none_over main number ys) (none_over main number xs) (λ x. ap not (sym (list_any-IsPermutation (is_over main number x) xs ys moves))) ys

  not_lt_main : (o p : Ordering) → is_lt (ordering_then o p) ≡ false → is_lt o ≡ false
  not_lt_main Less p is = is
  not_lt_main Equal p is = refl
  not_lt_main Greater p is = refl

  sorted_main : (xs : List X) → IsSorted (greatest_first main number) xs → IsSorted main xs
  sorted_main xs sorted = λ k d low within. not_lt_main _ _ (sorted k d low within)

  all_not_before : (x : X) (xs : List X) → AllByRecursion (λ y. main x y ≡ Less) xs → AllByRecursion (λ y. is_before main y x ≡ false) xs
  all_not_before x [] below = tt
  all_not_before x (y ∷ ys) below = (ap is_lt (back_greater x y below.0), all_not_before x ys below.1)

  rises_from_strict : (xs : List X) → IsStrictlySortedBy main xs → Rises main xs
  rises_from_strict [] strict = tt
  rises_from_strict (x ∷ xs) strict = (all_not_before x xs (sorted_head main x xs strict), rises_from_strict xs (sorted_tail main x xs strict))

  -- of elements that tie in the main order and have none over them, one is the other
  one_of_foremost : (xs : List X) → IsDistinct (eq_by_cmp (greatest_first main number)) xs → (x y : X) → Contains xs x → Contains xs y
      → none_over main number xs x ≡ true → none_over main number xs y ≡ true → main x y ≡ Equal → x ≡ y
  one_of_foremost xs apart x y at_x at_y free_x free_y tie =
      let flips = (eq_by_cmp_equiv (greatest_first_total main number total)).symm in
      let over_none : (v w : X) → Contains xs w → none_over main number xs v ≡ true → main v w ≡ Equal → number v < number w → ⊥ = λ v w at free same less.
      let over : is_over main number v w ≡ true = and_from _ _ (ap is_eq same) (lt-ltb (number v) (number w) less) in
      let seen : is_over main number v (get_or xs at.0 w) ≡ true = ap (is_over main number v) at.2 ∙ over in
      let some : list_any (is_over main number v) xs ≡ true = list_any_at (is_over main number v) xs at.0 w at.1 seen in
      let none : list_any (is_over main number v) xs ≡ false = not-true _ free in cc in
      elim (cases_order (number x) (number y)) [
        | inl one ↦
            one_of_ties (eq_by_cmp (greatest_first main number)) flips xs apart x y at_x at_y
            (ap is_eq (ap (λ (o : Ordering). ordering_then o (nat_cmp (number y) (number x))) tie ∙ sym (nat_cmp_is (number y) (number x) Equal (sym one))))
        | inr other ↦
            elim other [
              | inl less ↦ absurd (over_none x y at_y free_x tie less)
              | inr more ↦ absurd (over_none y x at_x free_y (tied_back total x y tie) more)
            ]
      ]

  -- the first of each run of the sorted list are those that have none over them, in order
  pub foremost_in_order : (xs ys : List X) → IsDistinct (eq_by_cmp (greatest_first main number)) xs → IsPermutation xs ys → IsStrictlySortedBy (greatest_first main number) ys
      → IsStrictlySortedBy main (dedup (eq_by_cmp main) ys) → dedup (eq_by_cmp main) ys ≡ in_order main (filter (none_over main number xs) xs)
  foremost_in_order xs ys apart moves strict strict_main =
      let p = none_over main number xs in
      let is = first_stay xs ys moves strict in
      let alike = alike_filter p xs ys moves in
      let back = IsPermutation-sym xs ys moves in
      let alike_all : AreAlike (dedup (eq_by_cmp main) ys) (in_order main (filter p xs)) = record {
        same = λ f. ap (sum_by f) is ∙ alike.same f ∙ sym (sum_by-in_order main f (filter p xs));
      } in
      let ties : OnlyEqualsTie main (dedup (eq_by_cmp main) ys) (in_order main (filter p xs)) = record {
        same = λ x y at_x at_y tie.
            let in_x : Contains (filter p ys) x = subst (λ (zs : List X). Contains zs x) is at_x in
            let in_y : Contains (filter p xs) y = Contains-from_in_order main (filter p xs) y at_y in
            one_of_foremost xs apart x y (Contains-permutation ys xs x back (Contains-from_filter p ys x in_x)) (Contains-from_filter p xs y in_y)
            (passes_in_filter p ys x in_x) (passes_in_filter p xs y in_y) tie;
      } in
      one_order main total (dedup (eq_by_cmp main) ys) (in_order main (filter p xs)) alike_all ties (rises_from_strict (dedup (eq_by_cmp main) ys) strict_main)
      (in_order_rises main total (filter p xs))

  -- a list that is sorted by the main order, and of elements that tie by the greatest number first, without the later
  -- ones of each run
  pub record AreForemost (xs ys : List X) : Type 0 where
    pub ascend : IsStrictlySortedBy main (dedup (eq_by_cmp main) ys)
    pub are : dedup (eq_by_cmp main) ys ≡ in_order main (filter (none_over main number xs) xs)

  pub foremost : (xs ys : List X) → X → IsDistinct (eq_by_cmp (greatest_first main number)) xs → IsPermutation xs ys → IsSorted (greatest_first main number) ys → AreForemost xs ys
  foremost xs ys d apart moves sorted =
      let cmp = greatest_first main number in
      let all_total = greatest_first_total main number total in
      let apart_ys = IsDistinct-IsPermutation (eq_by_cmp cmp) (eq_by_cmp_equiv all_total).symm xs ys moves apart in
      let ascend = IsStrictlySortedBy-dedup total {E = eq_by_cmp main} (λ x y. refl) ys (sorted_main ys sorted) in
      record {
        ascend = ascend;
        are = foremost_in_order xs ys apart moves (strict_from_sorted cmp all_total ys d sorted apart_ys) ascend;
      }
