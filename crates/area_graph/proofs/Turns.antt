-- The turn of an arc is how far it stands after the first of its way, and so does its partner.
use Rattle.std.proofs.Common.{◌≡◌, ◌∙◌, ◌≤◌, ◌<◌, ◌+◌, ◌-◌, zero, suc, ℕ, Bool, true, false, List, [], ◌∷◌, Option, Some, None, length, get_or, get_or-take, take, refl, sym, ap, inl, inr, arith}
use Rattle.std.specs.List.{count_by, filter, position_or_len}
use Rattle.std.proofs.lemmas.Bool.{both_ways, cases_Bool, cases_lt, false_from_ne_true}
use Rattle.std.proofs.lemmas.List.{get_or_default, length-take-le}
use Rattle.std.proofs.lemmas.List.Elements.{Contains-get_or}
use Rattle.std.proofs.lemmas.List.Sums.{sum_by-cons, length-filter}
use Rattle.mrt_graph.proofs.Members.{contains_from_has, has_from_contains}
use Rattle.mrt_graph.proofs.Tallies.{one_if}
use Rattle.area_graph.specs.declared.entry.NumberedEntry.{NumberedEntry as Entry}
use Rattle.area_graph.specs.steps.NumberedBonds.{same_way, same_entry, turn_of, partner}
use Rattle.area_graph.specs.steps.Pairing.{AreOrdered}
use Rattle.area_graph.specs.steps.EntryOrder.{is_before_ends, IsFirstOf}
use Rattle.area_graph.proofs.Apart.{once_from_apart, same_from, same_itself, same_parts}
use Rattle.area_graph.proofs.Partners.{from_one_way, one_more, one_way, only_partner, partner_is}
use Rattle.area_graph.proofs.EntriesInOrder.{below_from_true, squeezed, upto_from_false, ways_climb}

-- the first that passes among some, where none before it does, stands after those of them before it
place_in : {X : Type 0} (w p : X → Bool) (xs : List X) (i : ℕ) (d : X) → i < length xs → w (get_or xs i d) ≡ true → p (get_or xs i d) ≡ true
    → ((k : ℕ) → k < i → p (get_or xs k d) ≡ false) → position_or_len p (filter w xs) ≡ length (filter w (take i xs))
place_in w p [] i d within among passes none = absurd (omega (arith, within))
place_in w p (x ∷ xs) zero d within among passes none = rw (among, passes) refl
place_in w p (x ∷ xs) (suc i) d within among passes none =
    let other : p x ≡ false = none 0 (omega arith) in
    let rest = place_in w p xs i d (omega (arith, within)) among passes (λ k below. none (suc k) (omega (arith, below))) in
    elim (cases_Bool (w x)) [ inl here ↦ rw (here, other) (one_more (position_or_len p (filter w xs)) ∙ ap suc rest) | inr not ↦ rw not rest ]

-- how many pass where those pass that stand from one place up to another
none_counted : {X : Type 0} (p : X → Bool) (xs : List X) → ((k : ℕ) (d : X) → k < length xs → p (get_or xs k d) ≡ false) → count_by p xs ≡ 0
none_counted p [] none = refl
none_counted p (x ∷ xs) none =
    let first : one_if (p x) ≡ 0 = rw (none 0 x (omega arith)) refl in
    sum_by-cons (λ y. one_if (p y)) x xs ∙ omega (arith, first, none_counted p xs (λ k d within. none (suc k) d (omega arith)))

pub counted_between : {X : Type 0} (p : X → Bool) (xs : List X) (first last : ℕ) → first ≤ last → last ≤ length xs
    → ((k : ℕ) (d : X) → k < first → p (get_or xs k d) ≡ false) → ((k : ℕ) (d : X) → first ≤ k → k < last → p (get_or xs k d) ≡ true)
    → ((k : ℕ) (d : X) → last ≤ k → k < length xs → p (get_or xs k d) ≡ false) → count_by p xs + first ≡ last
counted_between p [] first last le within below between above = omega arith
counted_between p (x ∷ xs) zero zero le within below between above = omega (arith, none_counted p (x ∷ xs) (λ k d under. above k d (omega arith) under))
counted_between p (x ∷ xs) (suc first) zero le within below between above = absurd (omega arith)
counted_between p (x ∷ xs) zero (suc last) le within below between above =
    let one : one_if (p x) ≡ 1 = rw (between 0 x (omega arith) (omega arith)) refl in
    let rest : count_by p xs + 0 ≡ last = counted_between p xs 0 last (omega arith) (omega arith) (λ k d under. absurd (omega arith))
    (λ k d from under. between (suc k) d (omega arith) (omega arith)) (λ k d from under. above (suc k) d (omega arith) (omega arith)) in
    omega (arith, one, rest, sum_by-cons (λ y. one_if (p y)) x xs)
counted_between p (x ∷ xs) (suc first) (suc last) le within below between above =
    let none : one_if (p x) ≡ 0 = rw (below 0 x (omega arith)) refl in
    let rest : count_by p xs + first ≡ last = counted_between p xs first last (omega arith) (omega arith) (λ k d under. below (suc k) d (omega arith))
    (λ k d from under. between (suc k) d (omega arith) (omega arith)) (λ k d from under. above (suc k) d (omega arith) (omega arith)) in
    omega (arith, none, rest, sum_by-cons (λ y. one_if (p y)) x xs)

-- a place that is before a way is not of it
pub not_of_way : (tail far : ℕ) (e : Entry) → is_before_ends tail far e ≡ true → e.tail ≡ tail → e.far ≡ far → ⊥
not_of_way tail far e before at_tail at_far =
    elim (below_from_true tail far e before) [ inl lower ↦ omega (arith, lower, at_tail) | inr same ↦ omega (arith, same.1, at_far) ]

pub first_upto : (tail far : ℕ) (arcs : List Entry) (first i : ℕ) (d : Entry) → IsFirstOf tail far arcs first → (get_or arcs i d).tail ≡ tail → (get_or arcs i d).far ≡ far → first ≤ i
first_upto tail far arcs first i d is_first at_tail at_far =
    elim (cases_lt i first) [
      | inl below ↦ absurd (not_of_way tail far (get_or arcs i d) (is_first.below i d (omega arith) below) at_tail at_far)
      | inr above ↦ above
    ]

-- the turn of an arc is how far after the first of its way it stands
pub turn_is : (tail far : ℕ) (arcs : List Entry) (first i : ℕ) (d : Entry) → AreOrdered arcs → IsFirstOf tail far arcs first → i < length arcs
    → (get_or arcs i d).tail ≡ tail → (get_or arcs i d).far ≡ far → turn_of arcs (get_or arcs i d) + first ≡ i
turn_is tail far arcs first i d ordered is_first within at_tail at_far =
    let arc : Entry = get_or arcs i d in
    let le = first_upto tail far arcs first i d is_first at_tail at_far in
    let place : turn_of arcs arc ≡ length (filter (same_way arc) (take i arcs)) =
    place_in (same_way arc) (same_entry arc) arcs i d within (from_one_way arc arc (record { tail = refl; far = refl })) (same_itself arc)
    (λ k below.
    false_from_ne_true (same_entry arc (get_or arcs k d))
    (λ same.
    let parts = same_parts arc (get_or arcs k d) same in
    both_ways (same_entry (get_or arcs k d) arc) (ordered.apart k i d below within) (same_from (get_or arcs k d) arc (sym parts.0) (sym parts.1)))) in
    let long : length (take i arcs) ≡ i = length-take-le i arcs (omega (arith, within)) in
    let count : count_by (same_way arc) (take i arcs) + first ≡ i =
    counted_between (same_way arc) (take i arcs) first i le (omega (arith, long))
    (λ k e under.
    let read : get_or (take i arcs) k e ≡ get_or arcs k e = get_or-take i arcs k e (omega (arith, under, le)) in
    rw read (false_from_ne_true (same_way arc (get_or arcs k e))
    (λ same.
    let parts = one_way arc (get_or arcs k e) same in
    not_of_way tail far (get_or arcs k e) (is_first.below k e (omega (arith, under, le, within)) under) (parts.tail ∙ at_tail) (parts.far ∙ at_far))))
    (λ k e from under.
    let short : k < length arcs = omega (arith, under, within) in
    let read : get_or (take i arcs) k e ≡ get_or arcs k d = get_or-take i arcs k e under ∙ sym (get_or_default arcs k d e short) in
    let up = upto_from_false tail far (get_or arcs k d) (is_first.above k d from short) in
    let way = squeezed tail far (get_or arcs k d).tail (get_or arcs k d).far arc.tail arc.far up (ways_climb arcs ordered.sorted k i d (omega (arith, under)) within) at_tail at_far in
    rw read (from_one_way arc (get_or arcs k d) (record { tail = way.0 ∙ sym at_tail; far = way.1 ∙ sym at_far })))
    (λ k e from under. absurd (omega (arith, from, under, long))) in
    omega (arith, place, count, length-filter (same_way arc) (take i arcs))

-- the partner stands as far after the first of the way back as the arc after the first of its own
pub partner_at : (arcs : List Entry) → AreOrdered arcs → (arc : Entry) (place first first_back : ℕ) → place < length arcs → get_or arcs place arc ≡ arc
    → IsFirstOf arc.tail arc.far arcs first → IsFirstOf arc.far arc.tail arcs first_back → (d : Entry) → first_back + (place - first) < length arcs
    → (get_or arcs (first_back + (place - first)) d).tail ≡ arc.far → (get_or arcs (first_back + (place - first)) d).far ≡ arc.tail
    → partner arcs arc ≡ Some (get_or arcs (first_back + (place - first)) d)
partner_at arcs ordered arc place first first_back within at is_first is_first_back d other_within at_tail at_far =
    let other : ℕ = first_back + (place - first) in
    let own_tail : (get_or arcs place arc).tail ≡ arc.tail = ap (λ (e : Entry). e.tail) at in
    let own_far : (get_or arcs place arc).far ≡ arc.far = ap (λ (e : Entry). e.far) at in
    let turn : turn_of arcs arc + first ≡ place = rw at at (turn_is arc.tail arc.far arcs first place arc ordered is_first within own_tail own_far) in
    let turn_back = turn_is arc.far arc.tail arcs first_back other d ordered is_first_back other_within at_tail at_far in
    only_partner arcs arc (get_or arcs other d) (once_from_apart arcs ordered.apart)
    (record { there = has_from_contains arcs (get_or arcs other d) (Contains-get_or arcs other d other_within); tail = at_tail; far = at_far; turn = omega (arith, turn, turn_back) })

none_by : (o : Option Entry) → ((z : Entry) → o ≡ Some z → ⊥) → o ≡ None
none_by None never = refl
none_by (Some z) never = absurd (never z refl)

-- there is none where no arc of the way back stands there
pub partner_none : (arcs : List Entry) → AreOrdered arcs → (arc : Entry) (place first first_back : ℕ) → place < length arcs → get_or arcs place arc ≡ arc
    → IsFirstOf arc.tail arc.far arcs first → IsFirstOf arc.far arc.tail arcs first_back
    → ((d : Entry) → first_back + (place - first) < length arcs → (get_or arcs (first_back + (place - first)) d).tail ≡ arc.far
    → (get_or arcs (first_back + (place - first)) d).far ≡ arc.tail → ⊥) → partner arcs arc ≡ None
partner_none arcs ordered arc place first first_back within at is_first is_first_back none =
    let own_tail : (get_or arcs place arc).tail ≡ arc.tail = ap (λ (e : Entry). e.tail) at in
    let own_far : (get_or arcs place arc).far ≡ arc.far = ap (λ (e : Entry). e.far) at in
    let turn : turn_of arcs arc + first ≡ place = rw at at (turn_is arc.tail arc.far arcs first place arc ordered is_first within own_tail own_far) in
    none_by (partner arcs arc)
    (λ z is.
    let are = partner_is arcs arc z is in
    let there = contains_from_has arcs z are.there in
    let at_z : get_or arcs there.0 z ≡ z = there.2 in
    let tail : (get_or arcs there.0 z).tail ≡ arc.far = ap (λ (e : Entry). e.tail) at_z ∙ are.tail in
    let far : (get_or arcs there.0 z).far ≡ arc.tail = ap (λ (e : Entry). e.far) at_z ∙ are.far in
    let turn_z : turn_of arcs z + first_back ≡ there.0 = rw at_z at (turn_is arc.far arc.tail arcs first_back there.0 z ordered is_first_back there.1 tail far) in
    let place_is : there.0 ≡ first_back + (place - first) = omega (arith, turn, turn_z, are.turn) in
    none z (rw place_is at there.1) (rw place_is at tail) (rw place_is at far))

-- the partner of an arc that leaves the higher node stands before it
pub partner_before : (arcs : List Entry) → AreOrdered arcs → (place other : ℕ) (d : Entry) → place < length arcs → other < length arcs → (get_or arcs place d).far < (get_or arcs place d).tail
    → (get_or arcs other d).tail ≡ (get_or arcs place d).far → other < place
partner_before arcs ordered place other d within other_within backward at_tail =
    elim (cases_lt other place) [
      | inl below ↦ below
      | inr above ↦
          elim (ways_climb arcs ordered.sorted place other d above other_within) [
            | inl lower ↦ absurd (omega (arith, lower, at_tail, backward))
            | inr same ↦ absurd (omega (arith, same.0, at_tail, backward))
          ]
    ]
