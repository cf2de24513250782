-- The number of an arc's bond: that of its pair, or else how many bonds stand before.
use Rattle.std.proofs.Common.{◌≡◌, ◌∙◌, ◌≤◌, ◌<◌, ◌+◌, ◌++◌, ◌≢◌, ℕ, zero, suc, Bool, true, false, cond, List, [], ◌∷◌, Option, Some, None, length, get_or, take, slice_get, inl, inr, refl, sym, ap, subst, arith}
use Rattle.std.specs.List.{AllByRecursion, filter, position, position_or_len}
use Rattle.std.specs.Option.{is_none, unwrap_or}
use Rattle.std.specs.Prelude.{nat_lt}
use Rattle.std.proofs.lemmas.Bool.{cases_Bool, ltb-true}
use Rattle.std.proofs.lemmas.List.{append-nil, append_assoc, length-append, length-take-le}
use Rattle.std.proofs.lemmas.List.Elements.{filter_more}
use Rattle.std.proofs.lemmas.List.Sums.{count_by-le-length, length-filter}
use Rattle.std.proofs.lemmas.Option.{same_Some}
use Rattle.mrt_graph.specs.InOrder.{in_order}
use Rattle.mrt_graph.proofs.InOrder.{length-in_order}
use Rattle.mrt_graph.proofs.Members.{Has, has_at, has_filter, has_from_contains}
use Rattle.mrt_graph.proofs.Tallies.{IsFound, found_at, one_if, position_of_one, tally}
use Rattle.area_graph.specs.declared.entry.NumberedEntry.{NumberedEntry as Entry}
use Rattle.area_graph.specs.steps.NumberedArcs.{arc_cmp}
use Rattle.area_graph.specs.steps.NumberedBonds.{partner, tells_pair, is_single, pairs, singles, bonds, is_of, bond_of}
use Rattle.area_graph.specs.steps.Pairing.{pairs_upto, bonds_upto}
use Rattle.area_graph.proofs.Apart.{Once}
use Rattle.area_graph.proofs.OneBond.{from_tells, not_both, of_either, of_itself, of_no_pair, of_one_bond, of_one_pair, of_partner, tells}
use Rattle.area_graph.proofs.OrderedMembers.{has_in_order}
use Rattle.mrt_graph.proofs.IdPlaces.{no_place}
use Rattle.area_graph.proofs.Partners.{partner_back, partner_is}

-- ---- places in lists

-- where none passes there is no place
all_fail : {X : Type 0} (p : X → Bool) (xs : List X) → tally p xs ≡ 0 → AllByRecursion (λ x. p x ≡ false) xs
all_fail p [] none = tt
all_fail p (x ∷ xs) none = elim (cases_Bool (p x)) [
  | inl passes ↦ let first : one_if (p x) ≡ 1 = ap one_if passes in absurd (omega (arith, none, first))
  | inr fails ↦ (fails, all_fail p xs (omega (arith, none)))
]

position_of_none : {X : Type 0} (p : X → Bool) (xs : List X) → tally p xs ≡ 0 → position p xs ≡ None
position_of_none p xs none = no_place p xs (all_fail p xs none)

at_left : {X : Type 0} (xs ys : List X) (k : ℕ) (x : X) → slice_get xs k ≡ Some x → slice_get (xs ++ ys) k ≡ Some x
at_left [] ys k x there = absurd cc
at_left (y ∷ xs) ys zero x there = there
at_left (y ∷ xs) ys (suc k) x there = at_left xs ys k x there

at_right : {X : Type 0} (xs ys : List X) (k : ℕ) → slice_get (xs ++ ys) (length xs + k) ≡ slice_get ys k
at_right [] ys k = let same : 0 + k ≡ k = omega arith in ap (slice_get ys) same
at_right (x ∷ xs) ys k =
    let next : length (x ∷ xs) + k ≡ suc (length xs + k) = omega arith in ap (slice_get (x ∷ xs ++ ys)) next ∙ at_right xs ys k

-- what passes stands in the filter after those that passed before
kept_place : {X : Type 0} (p : X → Bool) (xs : List X) (k : ℕ) (d : X) → k < length xs → p (get_or xs k d) ≡ true
    → slice_get (filter p xs) (length (filter p (take k xs))) ≡ Some (get_or xs k d)
kept_place p [] k d within passes = absurd (omega arith)
kept_place p (x ∷ xs) zero d within passes = rw passes refl
kept_place p (x ∷ xs) (suc k) d within passes = elim (cases_Bool (p x)) [
  | inl first ↦ rw first (kept_place p xs k d (omega arith) passes)
  | inr fails ↦ rw fails (kept_place p xs k d (omega arith) passes)
]

length_kept : {X : Type 0} (p : X → Bool) (xs : List X) → length (filter p xs) ≤ length xs
length_kept p xs = omega (arith, length-filter p xs, count_by-le-length p xs)

-- ---- one more arc

pub pairs_more : (arcs : List Entry) (place : ℕ) (arc : Entry) → place < length arcs → get_or arcs place arc ≡ arc
    → pairs_upto arcs (place + 1) ≡ pairs_upto arcs place ++ cond (tells_pair arcs arc) (arc ∷ []) []
pairs_more arcs place arc within at =
    filter_more (tells_pair arcs) arcs place arc within
    ∙ ap (λ (x : Entry). pairs_upto arcs place ++ cond (tells_pair arcs x) (x ∷ []) []) at

tells_no : (arcs : List Entry) (arc : Entry) → partner arcs arc ≡ None → tells_pair arcs arc ≡ false
tells_no arcs arc none = elim (cases_Bool (tells_pair arcs arc)) [
  | inl passes ↦ let pair = tells arcs arc passes in absurd (not_both (partner arcs arc) pair.back none pair.partners)
  | inr fails ↦ fails
]

tells_upper : (arcs : List Entry) (arc : Entry) → arc.far ≤ arc.tail → tells_pair arcs arc ≡ false
tells_upper arcs arc upper = elim (cases_Bool (tells_pair arcs arc)) [
  | inl passes ↦ let pair = tells arcs arc passes in absurd (omega (arith, pair.lower, upper))
  | inr fails ↦ fails
]

none_more : (arcs : List Entry) (place : ℕ) (arc : Entry) → place < length arcs → get_or arcs place arc ≡ arc → tells_pair arcs arc ≡ false
    → pairs_upto arcs (place + 1) ≡ pairs_upto arcs place
none_more arcs place arc within at fails =
    pairs_more arcs place arc within at ∙ ap (λ b. pairs_upto arcs place ++ cond b (arc ∷ []) []) fails ∙ append-nil (pairs_upto arcs place)

-- an arc without a partner tells no pair
pub pairs_more_none : (arcs : List Entry) (place : ℕ) (arc : Entry) → place < length arcs → get_or arcs place arc ≡ arc → partner arcs arc ≡ None
    → pairs_upto arcs (place + 1) ≡ pairs_upto arcs place
pairs_more_none arcs place arc within at none = none_more arcs place arc within at (tells_no arcs arc none)

-- nor does one that leaves the higher node
pub pairs_more_back : (arcs : List Entry) (place : ℕ) (arc : Entry) → place < length arcs → get_or arcs place arc ≡ arc → arc.far ≤ arc.tail
    → pairs_upto arcs (place + 1) ≡ pairs_upto arcs place
pairs_more_back arcs place arc within at upper = none_more arcs place arc within at (tells_upper arcs arc upper)

pub pairs_more_pair : (arcs : List Entry) (place : ℕ) (arc back : Entry) → place < length arcs → get_or arcs place arc ≡ arc → arc.tail < arc.far → partner arcs arc ≡ Some back
    → pairs_upto arcs (place + 1) ≡ pairs_upto arcs place ++ arc ∷ []
pairs_more_pair arcs place arc back within at lower found =
    pairs_more arcs place arc within at ∙ ap (λ b. pairs_upto arcs place ++ cond b (arc ∷ []) []) (from_tells arcs arc back lower found)

-- the arcs of an area in their order
abbrev pub ordered_arcs : List Entry → List Entry
ordered_arcs arcs = in_order arc_cmp arcs

pub bonds_more : (arcs : List Entry) (place : ℕ) (d : Entry) → place < length (ordered_arcs arcs)
    → bonds_upto arcs (place + 1) ≡ bonds_upto arcs place ++ cond (is_single arcs (get_or (ordered_arcs arcs) place d)) (get_or (ordered_arcs arcs) place d ∷ []) []
bonds_more arcs place d within =
    let arc : Entry = get_or (ordered_arcs arcs) place d in
    ap (λ (l : List Entry). pairs arcs ++ l) (filter_more (is_single arcs) (ordered_arcs arcs) place d within)
    ∙ sym (append_assoc (pairs arcs) (filter (is_single arcs) (take place (ordered_arcs arcs))) (cond (is_single arcs arc) (arc ∷ []) []))

-- ---- numbers

-- an arc without a partner is of no pair
pub none_of_single : (arcs : List Entry) (arc : Entry) → Once arcs → Has arcs arc → partner arcs arc ≡ None → position (is_of arcs arc) (pairs arcs) ≡ None
none_of_single arcs arc once has none = position_of_none (is_of arcs arc) (pairs arcs) (of_no_pair arcs arc once has none)

-- the number of the pair that an arc tells
pub pair_place : (arcs : List Entry) (place : ℕ) (arc back : Entry) → Once arcs → place < length arcs → get_or arcs place arc ≡ arc → arc.tail < arc.far → partner arcs arc ≡ Some back
    → position (is_of arcs arc) (pairs arcs) ≡ Some (length (pairs_upto arcs place))
pair_place arcs place arc back once within at lower found =
    let has : Has arcs arc = has_from_contains arcs arc (place, within, at) in
    let told : tells_pair arcs (get_or arcs place arc) ≡ true = ap (tells_pair arcs) at ∙ from_tells arcs arc back lower found in
    let one : tally (is_of arcs arc) (pairs arcs) ≡ 1 = of_one_pair arcs arc once has back found (λ same. omega (arith, same, lower)) in
    position_of_one (is_of arcs arc) (pairs arcs) (length (pairs_upto arcs place)) arc (omega (arith, one))
    (kept_place (tells_pair arcs) arcs place arc within told ∙ ap (λ (x : Entry). Some x) at) (of_itself arcs arc)

-- the place of the pair of an arc with a partner
pair_there : (arcs : List Entry) (arc back : Entry) → Once arcs → Has arcs arc → arc.tail ≢ arc.far → partner arcs arc ≡ Some back → IsFound (is_of arcs arc) (pairs arcs)
pair_there arcs arc back once has different found =
    let one : tally (is_of arcs arc) (pairs arcs) ≡ 1 = of_one_pair arcs arc once has back found different in
    found_at (is_of arcs arc) (pairs arcs) (omega (arith, one))

-- an arc and its partner are of one pair
pub partners_number : (arcs : List Entry) (arc back : Entry) → Once arcs → Has arcs arc → arc.tail ≢ arc.far → partner arcs arc ≡ Some back
    → position (is_of arcs arc) (pairs arcs) ≡ position (is_of arcs back) (pairs arcs)
partners_number arcs arc back once has different found =
    let are = partner_is arcs arc back found in
    let again = partner_back arcs arc back once has found in
    let pair = pair_there arcs arc back once has different found in
    let has_one : Has arcs pair.item = (has_filter (tells_pair arcs) arcs pair.item (has_at (pairs arcs) pair.place pair.item pair.there)).0 in
    let also : is_of arcs back pair.item ≡ true = elim (of_either arcs arc pair.item once has has_one pair.passes) [
      | inl same ↦ of_partner arcs back pair.item (ap (partner arcs) (sym same) ∙ found)
      | inr other ↦
          let there : partner arcs arc ≡ Some pair.item = partner_back arcs pair.item arc once has_one other in
          subst (λ e. is_of arcs back e ≡ true) (same_Some back pair.item (sym found ∙ there)) (of_itself arcs back)
    ] in
    let one : tally (is_of arcs arc) (pairs arcs) ≡ 1 = of_one_pair arcs arc once has back found different in
    let one_back : tally (is_of arcs back) (pairs arcs) ≡ 1 =
    of_one_pair arcs back once are.there arc again (λ same. different (sym are.far ∙ sym same ∙ are.tail)) in
    position_of_one (is_of arcs arc) (pairs arcs) pair.place pair.item (omega (arith, one)) pair.there pair.passes
    ∙ sym (position_of_one (is_of arcs back) (pairs arcs) pair.place pair.item (omega (arith, one_back)) pair.there also)

none_like : (arcs : List Entry) (arc : Entry) (o : Option Entry) → Once arcs → Has arcs arc → arc.tail ≢ arc.far → partner arcs arc ≡ o
    → is_none (position (is_of arcs arc) (pairs arcs)) ≡ is_none o
none_like arcs arc None once has different is = ap is_none (none_of_single arcs arc once has is)
none_like arcs arc (Some back) once has different is =
    let pair = pair_there arcs arc back once has different is in
    let one : tally (is_of arcs arc) (pairs arcs) ≡ 1 = of_one_pair arcs arc once has back is different in
    ap is_none (position_of_one (is_of arcs arc) (pairs arcs) pair.place pair.item (omega (arith, one)) pair.there pair.passes)

-- an arc is of no pair exactly where it has no partner
pub single_is : (arcs : List Entry) (arc : Entry) → Once arcs → Has arcs arc → arc.tail ≢ arc.far → is_none (position (is_of arcs arc) (pairs arcs)) ≡ is_single arcs arc
single_is arcs arc once has different = none_like arcs arc (partner arcs arc) once has different refl

number_by : (arcs : List Entry) (place : ℕ) (arc : Entry) (o : Option Entry) → partner arcs arc ≡ o → Once arcs → place < length (ordered_arcs arcs)
    → get_or (ordered_arcs arcs) place arc ≡ arc → arc.tail ≢ arc.far
    → unwrap_or (position (is_of arcs arc) (pairs arcs)) (length (bonds_upto arcs place)) ≡ bond_of arcs arc
number_by arcs place arc None is once within at different =
    let has : Has arcs arc = has_in_order arc_cmp arcs arc (has_from_contains (ordered_arcs arcs) arc (place, within, at)) in
    let before : List Entry = filter (is_single arcs) (take place (ordered_arcs arcs)) in
    let told : is_single arcs (get_or (ordered_arcs arcs) place arc) ≡ true = ap (is_single arcs) at ∙ ap is_none is in
    let there : slice_get (bonds arcs) (length (bonds_upto arcs place)) ≡ Some arc =
    ap (slice_get (bonds arcs)) (length-append (pairs arcs) before) ∙ at_right (pairs arcs) (singles arcs) (length before)
    ∙ kept_place (is_single arcs) (ordered_arcs arcs) place arc within told ∙ ap (λ (x : Entry). Some x) at in
    let one : tally (is_of arcs arc) (bonds arcs) ≡ 1 = of_one_bond arcs arc once has different in
    ap (λ (o : Option ℕ). unwrap_or o (length (bonds_upto arcs place))) (none_of_single arcs arc once has is)
    ∙ sym (ap (λ (o : Option ℕ). unwrap_or o (length (bonds arcs)))
    (position_of_one (is_of arcs arc) (bonds arcs) (length (bonds_upto arcs place)) arc (omega (arith, one)) there (of_itself arcs arc)))
number_by arcs place arc (Some back) is once within at different =
    let has : Has arcs arc = has_in_order arc_cmp arcs arc (has_from_contains (ordered_arcs arcs) arc (place, within, at)) in
    let pair = pair_there arcs arc back once has different is in
    let one : tally (is_of arcs arc) (pairs arcs) ≡ 1 = of_one_pair arcs arc once has back is different in
    let one_bond : tally (is_of arcs arc) (bonds arcs) ≡ 1 = of_one_bond arcs arc once has different in
    ap (λ (o : Option ℕ). unwrap_or o (length (bonds_upto arcs place)))
    (position_of_one (is_of arcs arc) (pairs arcs) pair.place pair.item (omega (arith, one)) pair.there pair.passes)
    ∙ sym (ap (λ (o : Option ℕ). unwrap_or o (length (bonds arcs)))
    (position_of_one (is_of arcs arc) (bonds arcs) pair.place pair.item (omega (arith, one_bond)) (at_left (pairs arcs) (singles arcs) pair.place pair.item pair.there) pair.passes))

-- the number of an arc's bond: that of its pair, or else how many bonds there are before
pub number_is : (arcs : List Entry) (place : ℕ) (arc : Entry) → Once arcs → place < length (ordered_arcs arcs) → get_or (ordered_arcs arcs) place arc ≡ arc → arc.tail ≢ arc.far
    → unwrap_or (position (is_of arcs arc) (pairs arcs)) (length (bonds_upto arcs place)) ≡ bond_of arcs arc
number_is arcs place arc once within at different = number_by arcs place arc (partner arcs arc) refl once within at different

place_by : (b : Bool) (n m k : ℕ) → nat_lt n m ≡ b → cond b (Some n) None ≡ Some k → k < m
place_by true n m k is some = let same : n ≡ k = cc in omega (arith, ltb-true n m is, same)
place_by false n m k is some = absurd cc

bound_by : (arcs : List Entry) (arc : Entry) (place : ℕ) (o : Option ℕ) → length arcs ≤ 32768 → place < length (ordered_arcs arcs) → position (is_of arcs arc) (pairs arcs) ≡ o
    → unwrap_or o (length (bonds_upto arcs place)) < 65536
bound_by arcs arc place None few within is =
    omega (
      arith,
      few,
      within,
      length-in_order arc_cmp arcs,
      length-append (pairs arcs) (filter (is_single arcs) (take place (ordered_arcs arcs))),
      length_kept (tells_pair arcs) arcs,
      length_kept (is_single arcs) (take place (ordered_arcs arcs)),
      length-take-le place (ordered_arcs arcs) (omega (arith, within)),
    )
bound_by arcs arc place (Some k) few within is =
    let low : k < length (pairs arcs) =
    place_by (nat_lt (position_or_len (is_of arcs arc) (pairs arcs)) (length (pairs arcs))) (position_or_len (is_of arcs arc) (pairs arcs)) (length (pairs arcs)) k refl is in
    omega (arith, low, few, length_kept (tells_pair arcs) arcs)

-- the number fits 16 bits
pub number_bound : (arcs : List Entry) (arc : Entry) (place : ℕ) → length arcs ≤ 32768 → place < length (ordered_arcs arcs)
    → unwrap_or (position (is_of arcs arc) (pairs arcs)) (length (bonds_upto arcs place)) < 65536
number_bound arcs arc place few within = bound_by arcs arc place (position (is_of arcs arc) (pairs arcs)) few within refl
