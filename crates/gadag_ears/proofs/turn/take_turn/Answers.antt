use Rattle.std.proofs.Common.{ℕ, List, [], ◌∷◌, length, refl, ap, arith, length-append}
use Rattle.gadag_ears.specs.declared.growing.Growing.{Growing}
use Rattle.gadag_ears.proofs.EndsPassed.{next_turn, no_turn, room_here}
use Rattle.gadag_ears.proofs.turn.take_turn.Goals as goal

pub neighbour_ears-requires-clause-turn : goal.neighbour_ears-requires-clause-turn
neighbour_ears-requires-clause-turn c =
    record { root = c.requires.turn.root; turn = c.child_ears.ensures.turn c.requires.turn.root c.requires.turn.turn }

pub push_reserved-requires : goal.push_reserved-requires
push_reserved-requires c =
    let few = room_here c.args.g.now c.requires.turn.root c.args.tree.now c.args.x c.neighbour_ears.new.growing
    (c.neighbour_ears.ensures.turn c.requires.turn.root (c.child_ears.ensures.turn c.requires.turn.root c.requires.turn.turn)) in
    omega (arith, few, c.neighbour_ears.ensures.room.order)

-- when x has its place in the order and the next one has left the waiting
abbrev after_turn : goal.After-pop → Growing
after_turn c = record c.neighbour_ears.new.growing { order = c.push_reserved.new.self; waiting = c.pop.new.self }

pub returns-clause-onward : goal.returns-clause-onward
returns-clause-onward c =
    next_turn c.args.g.now c.args.tree.now c.args.x c.args.growing.now c.neighbour_ears.new.growing (after_turn c) c.pop.result
    (λ root turn. c.neighbour_ears.ensures.turn root (c.child_ears.ensures.turn root turn)) c.neighbour_ears.ensures.done
    c.push_reserved.ensures.items c.pop.ensures.items refl refl refl

pub returns-clause-ended : goal.returns-clause-ended
returns-clause-ended c =
    no_turn c.args.g.now c.args.tree.now c.args.x c.args.growing.now c.neighbour_ears.new.growing (after_turn c) c.pop.result
    (λ root turn. c.neighbour_ears.ensures.turn root (c.child_ears.ensures.turn root turn)) c.neighbour_ears.ensures.done
    c.push_reserved.ensures.items (λ more. c.pop.ensures.variant.1 (omega (arith, more))) refl refl

pub returns-clause-room : goal.returns-clause-room
returns-clause-room c = record {
  order = omega (arith, c.push_reserved.ensures.capacity, c.neighbour_ears.ensures.room.order);
  waiting = omega (arith, c.pop.ensures.capacity, c.neighbour_ears.ensures.room.waiting);
  added = c.neighbour_ears.ensures.room.added;
}

pub returns-clause-longer : goal.returns-clause-longer
returns-clause-longer c =
    omega (
      arith,
      ap (λ (xs : List ℕ). length xs) c.push_reserved.ensures.items,
      length-append c.neighbour_ears.new.growing.order.items (c.args.x ∷ []),
      ap (λ v. length v.items) c.neighbour_ears.ensures.order,
      ap (λ v. length v.items) c.child_ears.ensures.order,
    )
