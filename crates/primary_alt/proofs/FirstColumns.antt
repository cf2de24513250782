-- The first arcs of all nodes for one destination, and columns of them one after another.
use Rattle.std.proofs.Common.{◌≡◌, ◌≢◌, ◌<◌, ◌+◌, ◌++◌, ◌∷◌, [], ◌∙◌, ℕ, List, Option, Some, None, get_or, length, set, slice_get, inl, inr, sym, ap, subst, arith}
use Rattle.std.specs.Prelude.{Contains, is_some, map, true}
use Rattle.std.specs.List.{range_with_len}
use Rattle.std.proofs.lemmas.Bool.{cases_eq, cases_lt}
use Rattle.std.proofs.lemmas.List.{get_or_append_left, get_or_push, length-set}
use Rattle.std.proofs.lemmas.List.FromFn.{get_or-map-range_with_len, length-map-range_with_len}
use Rattle.std.proofs.lemmas.List.Elements.{Contains-append_left, Contains-push, Contains-push_cases}
use Rattle.std.proofs.lemmas.Option.{get_or_from_slice_get, same_Some, slice_get_within}
use Rattle.mrt_graph.proofs.ListPlaces.{set_elsewhere, set_there}
use Rattle.area_graph.specs.declared.area_types.Arc.{Arc}
use Rattle.area_graph.specs.AreaInvariant.{IsArea}
use Rattle.area_graph.specs.Parts.{AreaParts}
use Rattle.area_graph.specs.steps.Starts.{AreStarts}
use Rattle.primary_alt.specs.steps.Attaining.{AreFirstToAttain, Does, IsFirstToAttain, NoneDoes}
use Rattle.primary_alt.specs.steps.Distances.{AreDistances}
use Rattle.primary_alt.specs.steps.FirstArcs.{AreColumnsFor, AreFirstArcs}
use Rattle.primary_alt.proofs.FirstsByDistances.{first_by_distances}

-- those of so many nodes
abbrev pub AreFirstsTo : List Arc → List ℕ → List (Option ℕ) → List (Option ℕ) → ℕ → Type 0
AreFirstsTo arcs starts known firsts count =
    (x : ℕ) → x < count → IsFirstToAttain arcs (get_or starts x 0) (get_or starts (x + 1) 0) known (get_or firsts x None)

pub firsts_more : (arcs : List Arc) (starts : List ℕ) (known firsts : List (Option ℕ)) (x : ℕ) (first : Option ℕ) → length firsts ≡ x
    → AreFirstsTo arcs starts known firsts x → IsFirstToAttain arcs (get_or starts x 0) (get_or starts (x + 1) 0) known first
    → AreFirstsTo arcs starts known (firsts ++ first ∷ []) (x + 1)
firsts_more arcs starts known firsts x first many so_far is y low = elim (cases_lt y x) [
  | inl early ↦
      subst (λ (o : Option ℕ). IsFirstToAttain arcs (get_or starts y 0) (get_or starts (y + 1) 0) known o)
      (sym (get_or_append_left firsts (first ∷ []) None y (omega (arith, many, early)))) (so_far y early)
  | inr last ↦
      let same : x ≡ y = omega (arith, low, last) in
      subst (λ (o : Option ℕ). IsFirstToAttain arcs (get_or starts y 0) (get_or starts (y + 1) 0) known o) (sym (get_or_push firsts first None y (many ∙ same)))
      (subst (λ (z : ℕ). IsFirstToAttain arcs (get_or starts z 0) (get_or starts (z + 1) 0) known first) same is)
]

-- what the first arc of a node is
number_within : (arcs : List Arc) (low high : ℕ) (known : List (Option ℕ)) (first : Option ℕ) (number : ℕ) → IsFirstToAttain arcs low high known first → first ≡ Some number
    → number < length arcs
number_within arcs low high known first number (NoneDoes none) is = cc
number_within arcs low high known first number (Does k arc from to at attains none) is =
    subst (λ (n : ℕ). n < length arcs) (same_Some k number is) (slice_get_within arcs k arc at)

pub column_is : (area : AreaParts) (starts : List ℕ) (known column : List (Option ℕ)) (t : ℕ) → IsArea area → AreStarts (length area.ids) area.arcs starts
    → length known ≡ length area.ids → AreDistances area.arcs t known → AreFirstToAttain area.arcs starts known column → AreFirstArcs area t column
column_is area starts known column t kept are one_each distances firsts = record {
  one_each = firsts.one_each ∙ one_each;
  arcs = λ x number at.
      let low : x < length known = omega (arith, firsts.one_each, slice_get_within column x (Some number) at) in
      number_within area.arcs _ _ known _ number (firsts.each x low) (get_or_from_slice_get column x (Some number) None at);
  first = λ x within apart.
      first_by_distances area kept t known one_each distances x _ _ _ within apart (are.lower x (omega (arith, within))) (are.lower (x + 1) (omega (arith, within)))
      (firsts.each x (omega (arith, one_each, within)));
}

-- at first there are none
pub columns_none : (area : AreaParts) (columns : List (Option (List (Option ℕ)))) (count : ℕ) → count ≡ length area.ids
    → columns ≡ map (λ _. None) (range_with_len 0 count) → AreColumnsFor area [] columns
columns_none area columns count many blank = record {
  a_place_each = ap length blank ∙ length-map-range_with_len {X = Option (List (Option ℕ))} (λ (t : ℕ). None) 0 count ∙ many;
  firsts = λ t column at. absurd (no_column t column at);
  all = λ t has. absurd (omega (arith, has.1));
  only = λ t column at. absurd (no_column t column at);
}
  where
    no_column : (t : ℕ) (column : List (Option ℕ)) → slice_get columns t ≡ Some (Some column) → ⊥
    no_column t column at =
        let low : t < count =
        omega (arith, slice_get_within columns t (Some column) at, ap length blank, length-map-range_with_len {X = Option (List (Option ℕ))} (λ (u : ℕ). None) 0 count) in
        let is : None ≡ Some column =
        sym (get_or-map-range_with_len {X = Option (List (Option ℕ))} (λ (u : ℕ). None) 0 count t t (Some column) low (omega arith))
        ∙ ap (λ (xs : List (Option (List (Option ℕ)))). get_or xs t (Some column)) (sym blank)
        ∙ get_or_from_slice_get columns t (Some column) (Some column) at in
        cc

-- there is one where the test says so
pub column_by_test : (columns : List (Option (List (Option ℕ)))) (t : ℕ) (o : Option (List (Option ℕ))) → slice_get columns t ≡ Some o → is_some o ≡ true
    → (column : List (Option ℕ)) × (slice_get columns t ≡ Some (Some column))
column_by_test columns t None at is = cc
column_by_test columns t (Some column) at is = (column, at)

-- a destination that has its column already
pub columns_again : (area : AreaParts) (asked : List ℕ) (columns : List (Option (List (Option ℕ)))) (t : ℕ)
    → (column : List (Option ℕ)) × (slice_get columns t ≡ Some (Some column)) → AreColumnsFor area asked columns → AreColumnsFor area (asked ++ t ∷ []) columns
columns_again area asked columns t there are = record {
  a_place_each = are.a_place_each;
  firsts = are.firsts;
  all = λ u has. elim (Contains-push_cases asked t u has) [
    | inl before ↦ are.all u before
    | inr here ↦ subst (λ (v : ℕ). (column : List (Option ℕ)) × (slice_get columns v ≡ Some (Some column))) here there
  ];
  only = λ u column at. Contains-append_left asked (t ∷ []) u (are.only u column at);
}

-- a column more
pub columns_more : (area : AreaParts) (asked : List ℕ) (columns : List (Option (List (Option ℕ)))) (t : ℕ) (column : List (Option ℕ)) → t < length area.ids
    → AreFirstArcs area t column → AreColumnsFor area asked columns → AreColumnsFor area (asked ++ t ∷ []) (set columns t (Some column))
columns_more area asked columns t column within is are = record {
  a_place_each = length-set columns t (Some column) ∙ are.a_place_each;
  firsts = λ u other at. elim (cases_eq u t) [
    | inl same ↦
        let here : column ≡ other = the_column u other same at in
        subst (λ (v : ℕ). AreFirstArcs area v other) (sym same) (subst (λ (c : List (Option ℕ)). AreFirstArcs area t c) here is)
    | inr apart ↦ are.firsts u other (before u other apart at)
  ];
  all = λ u has. elim (cases_eq u t) [
    | inl same ↦ (column, ap (λ (v : ℕ). slice_get (set columns t (Some column)) v) same ∙ there)
    | inr apart ↦ elim (Contains-push_cases asked t u has) [
      | inl early ↦
          let old = are.all u early in (old.0, set_elsewhere columns t u (Some column) apart ∙ old.1)
      | inr here ↦ absurd (apart (sym here))
    ]
  ];
  only = λ u other at. elim (cases_eq u t) [
    | inl same ↦ subst (λ (v : ℕ). Contains (asked ++ t ∷ []) v) (sym same) (Contains-push asked t)
    | inr apart ↦ Contains-append_left asked (t ∷ []) u (are.only u other (before u other apart at))
  ];
}
  where
    there : slice_get (set columns t (Some column)) t ≡ Some (Some column)
    there = set_there columns t (Some column) (omega (arith, are.a_place_each, within))

    the_column : (u : ℕ) (other : List (Option ℕ)) → u ≡ t → slice_get (set columns t (Some column)) u ≡ Some (Some other) → column ≡ other
    the_column u other same at =
        same_Some column other
        (same_Some (Some column) (Some other) (sym there ∙ ap (λ (v : ℕ). slice_get (set columns t (Some column)) v) (sym same) ∙ at))

    before : (u : ℕ) (other : List (Option ℕ)) → u ≢ t → slice_get (set columns t (Some column)) u ≡ Some (Some other) → slice_get columns u ≡ Some (Some other)
    before u other apart at = sym (set_elsewhere columns t u (Some column) apart) ∙ at
