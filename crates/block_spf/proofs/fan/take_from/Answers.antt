use Rattle.std.proofs.Common.{◌≡◌, ◌<◌, ◌≤◌, ◌+◌, ◌*◌, ◌∙◌, ℕ, List, get_or, length, refl, sym, ap, inl, inr, arith}
use Rattle.std.specs.List.{slice_range}
use Rattle.std.proofs.lemmas.Bool.{cases_lt}
use Rattle.std.proofs.lemmas.List.{get_or_past}
use Rattle.block_spf.specs.steps.Known.{AreLanes, known_at}
use Rattle.block_spf.proofs.SideBySide.{range_index, range_length}
use Rattle.block_spf.proofs.fan.take_from.Goals as goal

-- a copy of the entries of one node
module _ (costs places from_costs from_places : List ℕ) (at n : ℕ) (room : at + n ≤ length costs) (are : AreLanes costs places)
    (made : from_costs ≡ slice_range costs at (at + n)) (made_places : from_places ≡ slice_range places at (at + n)) where
  room_places : at + n ≤ length places
  room_places = omega (arith, room, are.one_place_each)

  long : length from_costs ≡ n
  long = ap (λ (xs : List ℕ). length xs) made ∙ range_length costs at n room

  copied : (i : ℕ) → i < n → known_at from_costs from_places i ≡ known_at costs places (at + i)
  copied i inside = rw (made, made_places, range_index costs at n i room inside, range_index places at n i room_places inside) refl

  copy : AreLanes from_costs from_places
  copy = record {
    one_place_each = ap (λ (xs : List ℕ). length xs) made_places ∙ range_length places at n room_places ∙ sym long;
    none = λ i above. elim (cases_lt i n) [
      | inl inside ↦
          let cost : get_or from_costs i 0 ≡ get_or costs (at + i) 0 = rw (made, range_index costs at n i room inside) refl in
          copied i inside ∙ are.none (at + i) (omega (arith, above, cost))
      | inr past ↦ absurd (omega (arith, above, get_or_past from_costs i 0 (omega (arith, past, long))))
    ];
  }

pub returns-clause-lanes : goal.returns-clause-lanes
returns-clause-lanes c =
    let width = length c.args.from_costs.now in
    let room : c.get.result * width + width ≤ length c.args.costs.now = omega (arith, c.requires.room, ap (λ (v : ℕ). v * width) c.get.ensures.value) in
    copy c.args.costs.now c.args.places.now c.copy_from_slice.new.self c.copy_from_slice-2.new.self (c.get.result * width) width room c.requires.lanes
    c.copy_from_slice.ensures.after c.copy_from_slice-2.ensures.after

pub returns-clause-taken : goal.returns-clause-taken
returns-clause-taken c = λ j below.
    let width = length c.args.from_costs.now in
    let room : c.get.result * width + width ≤ length c.args.costs.now = omega (arith, c.requires.room, ap (λ (v : ℕ). v * width) c.get.ensures.value) in
    copied c.args.costs.now c.args.places.now c.copy_from_slice.new.self c.copy_from_slice-2.new.self (c.get.result * width) width room c.requires.lanes
    c.copy_from_slice.ensures.after c.copy_from_slice-2.ensures.after j below
    ∙ ap (λ (v : ℕ). known_at c.args.costs.now c.args.places.now (v * width + j)) c.get.ensures.value
