-- Arcs of one way have different turns, an arc has one partner at most, and a partner's partner is the arc itself.
use Rattle.std.proofs.Common.{◌≡◌, ◌∙◌, ◌+◌, ◌&&◌, ◌==◌, ℕ, suc, Bool, true, List, [], ◌∷◌, Some, slice_get, inl, inr, refl, sym, ap, subst, arith}
use Rattle.std.specs.List.{filter, position_or_len}
use Rattle.std.proofs.lemmas.Bool.{and_parts, and_from, both_ways, cases_Bool, eq-eqb, eqb-true}
use Rattle.std.proofs.lemmas.Option.{same_Some}
use Rattle.mrt_graph.proofs.Members.{Has, filter_has, find_has, find_only, has_at, has_filter}
use Rattle.area_graph.specs.declared.entry.NumberedEntry.{NumberedEntry as Entry}
use Rattle.area_graph.specs.steps.NumberedArcs.{answers}
use Rattle.area_graph.specs.steps.NumberedBonds.{same_entry, same_way, turn_of, are_partners, partner}
use Rattle.area_graph.proofs.Apart.{Once, one_member, same_itself}

-- arcs of one way
pub record OneWay (arc other : Entry) : Type 0 where
  pub tail : other.tail ≡ arc.tail
  pub far : other.far ≡ arc.far

pub one_way : (arc other : Entry) → same_way arc other ≡ true → OneWay arc other
one_way arc other same =
    let parts = and_parts (other.tail == arc.tail) (other.far == arc.far) same in
    record { tail = eqb-true other.tail arc.tail parts.0; far = eqb-true other.far arc.far parts.1 }

pub from_one_way : (arc other : Entry) → OneWay arc other → same_way arc other ≡ true
from_one_way arc other one = and_from (other.tail == arc.tail) (other.far == arc.far) (eq-eqb other.tail arc.tail one.tail) (eq-eqb other.far arc.far one.far)

pub one_more : (n : ℕ) → 1 + n ≡ suc n
one_more n = omega arith

-- where something passes, the first that does
record FirstOf {X : Type 0} (p : X → Bool) (xs : List X) : Type 0 where
  item : X
  at : slice_get xs (position_or_len p xs) ≡ Some item
  passes : p item ≡ true

first_that_passes : {X : Type 0} (p : X → Bool) (xs : List X) (x : X) → Has xs x → p x ≡ true → FirstOf p xs
first_that_passes p [] x has is = absurd has
first_that_passes p (y ∷ ys) x has is = elim (cases_Bool (p y)) [
  | inl here ↦ record { item = y; at = rw here refl; passes = here }
  | inr fails ↦ elim has [
    | inl same ↦ absurd (both_ways (p y) fails (subst (λ z. p z ≡ true) (sym same) is))
    | inr later ↦
        let rest = first_that_passes p ys x later is in
        record { item = rest.item; at = rw fails (ap (slice_get (y ∷ ys)) (one_more (position_or_len p ys)) ∙ rest.at); passes = rest.passes }
  ]
]

-- arcs of one way have the same arcs of their way
same_ways : (arcs : List Entry) (x y : Entry) → OneWay x y → filter (same_way x) arcs ≡ filter (same_way y) arcs
same_ways arcs x y way =
    ap (λ (tail : ℕ). filter (λ (other : Entry). (other.tail == tail) && (other.far == x.far)) arcs) (sym way.tail)
    ∙ ap (λ (far : ℕ). filter (λ (other : Entry). (other.tail == y.tail) && (other.far == far)) arcs) (sym way.far)

-- an arc is what stands at its turn among those of its way
module _ (arcs : List Entry) (x : Entry) (once : Once arcs) (has : Has arcs x) where
  at_turn : FirstOf (same_entry x) (filter (same_way x) arcs)
  at_turn =
      first_that_passes (same_entry x) (filter (same_way x) arcs) x
      (filter_has (same_way x) arcs x has (from_one_way x x (record { tail = refl; far = refl }))) (same_itself x)

  is_at_turn : x ≡ at_turn.item
  is_at_turn =
      one_member arcs x at_turn.item once has
      (has_filter (same_way x) arcs at_turn.item (has_at (filter (same_way x) arcs) (turn_of arcs x) at_turn.item at_turn.at)).0 at_turn.passes

-- two arcs of one way and one turn are one
pub one_turn : (arcs : List Entry) (x y : Entry) → Once arcs → Has arcs x → Has arcs y → OneWay x y → turn_of arcs x ≡ turn_of arcs y → x ≡ y
one_turn arcs x y once has_x has_y way same =
    let here = at_turn arcs x once has_x in
    let there = at_turn arcs y once has_y in
    let item : here.item ≡ there.item =
    same_Some here.item there.item (sym here.at ∙ ap (slice_get (filter (same_way x) arcs)) same
    ∙ ap (λ (list : List Entry). slice_get list (turn_of arcs y)) (same_ways arcs x y way) ∙ there.at) in
    is_at_turn arcs x once has_x ∙ item ∙ sym (is_at_turn arcs y once has_y)

-- back is an arc of the way back, and of the same turn
pub record IsPartner (arcs : List Entry) (arc back : Entry) : Type 0 where
  pub there : Has arcs back
  pub tail : back.tail ≡ arc.far
  pub far : back.far ≡ arc.tail
  pub turn : turn_of arcs back ≡ turn_of arcs arc

are_partners_tells : (arcs : List Entry) (arc back : Entry) → Has arcs back → are_partners arcs arc back ≡ true → IsPartner arcs arc back
are_partners_tells arcs arc back has passes =
    let parts = and_parts (answers arc back) (turn_of arcs back == turn_of arcs arc) passes in
    let ends = and_parts (back.tail == arc.far) (back.far == arc.tail) parts.0 in
    record {
      there = has;
      tail = eqb-true back.tail arc.far ends.0;
      far = eqb-true back.far arc.tail ends.1;
      turn = eqb-true (turn_of arcs back) (turn_of arcs arc) parts.1;
    }

pub partner_is : (arcs : List Entry) (arc back : Entry) → partner arcs arc ≡ Some back → IsPartner arcs arc back
partner_is arcs arc back is =
    let found = find_has (are_partners arcs arc) arcs back is in are_partners_tells arcs arc back found.0 found.1

-- an arc has one partner
pub only_partner : (arcs : List Entry) (arc back : Entry) → Once arcs → IsPartner arcs arc back → partner arcs arc ≡ Some back
only_partner arcs arc back once pair =
    let passes : are_partners arcs arc back ≡ true =
    and_from (answers arc back) (turn_of arcs back == turn_of arcs arc)
    (and_from (back.tail == arc.far) (back.far == arc.tail) (eq-eqb back.tail arc.far pair.tail) (eq-eqb back.far arc.tail pair.far))
    (eq-eqb (turn_of arcs back) (turn_of arcs arc) pair.turn) in
    let alone : (y : Entry) → Has arcs y → are_partners arcs arc y ≡ true → y ≡ back = λ y at also.
    let other = are_partners_tells arcs arc y at also in
    one_turn arcs y back once at pair.there (record { tail = pair.tail ∙ sym other.tail; far = pair.far ∙ sym other.far }) (other.turn ∙ sym pair.turn) in
    find_only (are_partners arcs arc) arcs back pair.there passes alone

-- a partner's partner is the arc itself
pub partner_back : (arcs : List Entry) (arc back : Entry) → Once arcs → Has arcs arc → partner arcs arc ≡ Some back → partner arcs back ≡ Some arc
partner_back arcs arc back once has is =
    let pair = partner_is arcs arc back is in
    only_partner arcs back arc once (record { there = has; tail = sym pair.far; far = sym pair.tail; turn = sym pair.turn })
