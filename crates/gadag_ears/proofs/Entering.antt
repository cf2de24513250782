-- New nodes enter, the last one first.
use Rattle.std.proofs.Common.{◌≡◌, ◌≢◌, ◌<◌, ◌≤◌, ◌+◌, ◌-◌, ◌++◌, ◌∙◌, ℕ, Bool, true, false, List, [], ◌∷◌, Some, drop, length, get_or, reverse, set, slice_get, inl, inr, refl, sym, ap, subst, arith, append_assoc}
use Rattle.std.specs.Prelude.{Contains}
use Rattle.std.proofs.lemmas.Bool.{cases_eq}
use Rattle.std.proofs.lemmas.List.{get_or-set_same, get_or-set_other, length-set, reverse-append, drop_more}
use Rattle.mrt_graph.specs.declared.gadag.Place.{Place}
use Rattle.mrt_graph.proofs.ListPlaces.{set_elsewhere, set_there}
use Rattle.mrt_graph.proofs.Members.{contains_cases, contains_first, contains_later, contains_none}
use Rattle.gadag_ears.specs.steps.Growing.{AreEntered, IsMarked}

pub none_entered : (listed : List Bool) (places : List Place) (head block : ℕ) → AreEntered listed places head block [] listed places
none_entered listed places head block = record {
  one_mark_each = refl;
  one_place_each = refl;
  marks = λ v m. inl m;
  kept = λ v m. m;
  marked = λ v none. absurd (contains_none v none);
  placed = λ v none. absurd (contains_none v none);
  others = λ v out. refl;
}

-- one more
pub one_more_entered : (listed : List Bool) (places : List Place) (head block : ℕ) (some : List ℕ) (listed' : List Bool) (places' : List Place) (u : ℕ)
    → u < length listed → u < length places → AreEntered listed places head block some listed' places'
    → AreEntered listed places head block (u ∷ some) (set listed' u true) (set places' u (record { head = head; block = block }))
one_more_entered listed places head block some listed' places' u u_marks u_places are = record {
  one_mark_each = length-set listed' u true ∙ are.one_mark_each;
  one_place_each = length-set places' u place ∙ are.one_place_each;
  marks = λ v m. elim (cases_eq v u) [
    | inl same ↦ inr (subst (λ (w : ℕ). Contains (u ∷ some) w) (sym same) (contains_first u some))
    | inr other ↦ elim (are.marks v (sym (get_or-set_other listed' u v true false other) ∙ m)) [
      | inl old ↦ inl old
      | inr later ↦ inr (contains_later u v some later)
    ]
  ];
  kept = λ v m. stays v (are.kept v m);
  marked = λ v c. elim (contains_cases u v some c) [
    | inl same ↦ subst (λ (w : ℕ). IsMarked (set listed' u true) w) (sym same) here
    | inr later ↦ stays v (are.marked v later)
  ];
  placed = λ v c. elim (cases_eq v u) [
    | inl same ↦ subst (λ (w : ℕ). slice_get (set places' u place) w ≡ Some place) (sym same) (set_there places' u place places_within)
    | inr other ↦ elim (contains_cases u v some c) [
      | inl same ↦ absurd (other same)
      | inr later ↦ set_elsewhere places' u v place other ∙ are.placed v later
    ]
  ];
  others = λ v out.
      let other : v ≢ u = λ same. out (subst (λ (w : ℕ). Contains (u ∷ some) w) (sym same) (contains_first u some)) in
      set_elsewhere places' u v place other ∙ are.others v (λ c. out (contains_later u v some c));
}
  where
    place : Place
    place = record { head = head; block = block }

    places_within : u < length places'
    places_within = omega (arith, u_places, are.one_place_each)

    here : IsMarked (set listed' u true) u
    here = get_or-set_same listed' u true false (omega (arith, u_marks, are.one_mark_each))

    stays : (v : ℕ) → IsMarked listed' v → IsMarked (set listed' u true) v
    stays v m = elim (cases_eq v u) [
      | inl same ↦ subst (λ (w : ℕ). IsMarked (set listed' u true) w) (sym same) here
      | inr other ↦ get_or-set_other listed' u v true false other ∙ m
    ]

-- one more waits
pub one_more_waits : (waiting waiting' some : List ℕ) (u : ℕ) → waiting' ≡ waiting ++ reverse some → waiting' ++ u ∷ [] ≡ waiting ++ reverse (u ∷ some)
one_more_waits waiting waiting' some u is =
    ap (λ (xs : List ℕ). xs ++ u ∷ []) is ∙ append_assoc waiting (reverse some) (u ∷ []) ∙ ap (λ (xs : List ℕ). waiting ++ xs) (sym (reverse-append (u ∷ []) some))

-- from a place on
pub drop_from : (xs : List ℕ) (k : ℕ) (u d : ℕ) → 0 < k → k ≤ length xs → u ≡ get_or xs (k - 1) d → drop (k - 1) xs ≡ u ∷ drop k xs
drop_from xs k u d positive within is =
    let same : k - 1 + 1 ≡ k = omega (arith, positive) in
    drop_more xs (k - 1) d (omega (arith, positive, within)) ∙ ap (λ (v : ℕ). v ∷ drop (k - 1 + 1) xs) (sym is) ∙ ap (λ (i : ℕ). u ∷ drop i xs) same

pub member_before : (xs : List ℕ) (k u : ℕ) → 0 < k → k ≤ length xs → u ≡ get_or xs (k - 1) u → Contains xs u
member_before xs k u positive within is = (k - 1, omega (arith, positive, within), sym is)
