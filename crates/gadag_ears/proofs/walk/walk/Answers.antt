use Rattle.std.proofs.Common.{◌∙◌, ℕ, List, [], ◌∷◌, length, sym, ap, subst, arith, length-append}
use Rattle.gadag_ears.proofs.EarWalk.{IsWalking, so_far_begins, so_far_on, walk_begins, walk_has_next, walk_next_within, walk_within, walks_nearer}
use Rattle.gadag_ears.proofs.walk.walk.Goals as goal

pub way-init : goal.way-init
way-init c = record {
  so_far = so_far_begins c.args.g.now c.args.tree.now c.args.kind c.args.listed.now c.args.first c.clear.new.self.items c.clear.ensures.items;
  walking = subst (λ (k : ℕ). IsWalking c.args.g.now c.args.tree.now c.args.kind c.args.listed.now c.args.first c.args.first k)
      (sym (ap (λ (xs : List ℕ). length xs) c.clear.ensures.items))
      (walk_begins c.args.g.now c.args.tree.now c.args.kind c.args.listed.now c.args.first c.requires.leaving);
  room = c.clear.ensures.capacity;
}

pub push_reserved-requires : goal.push_reserved-requires
push_reserved-requires c =
    let within = walk_within c.args.g.now c.args.tree.now c.args.kind c.args.listed.now c.args.first c.way.here (length c.way.new.items) c.way.invariant.walking in
    omega (arith, within.1, c.way.invariant.room, c.requires.room)

pub next_on-next-requires-clause-within : goal.next_on-next-requires-clause-within
next_on-next-requires-clause-within c =
    (walk_within c.args.g.now c.args.tree.now c.args.kind c.args.listed.now c.args.first c.way.here (length c.way.new.items) c.way.invariant.walking).0

pub next_on-next-requires-clause-some : goal.next_on-next-requires-clause-some
next_on-next-requires-clause-some c =
    walk_has_next c.args.g.now c.args.tree.now c.args.kind c.args.listed.now c.args.first c.way.here (length c.way.new.items) c.way.invariant.walking

pub is_listed-requires : goal.is_listed-requires
is_listed-requires c =
    walk_next_within c.args.g.now c.args.tree.now c.args.kind c.args.listed.now c.args.first c.way.here (length c.way.new.items) c.next_on-next.result
    c.way.invariant.walking c.next_on-next.ensures

pub way-smaller : goal.way-smaller
way-smaller c =
    (walks_nearer c.args.g.now c.args.tree.now c.args.kind c.args.listed.now c.args.first c.way.here (length c.way.new.items) c.next_on-next.result
    c.way.invariant.walking c.next_on-next.ensures (sym c.is_listed.ensures ∙ c.if-is_listed.false)).nearer

pub way-preserved : goal.way-preserved
way-preserved c =
    let next = walks_nearer c.args.g.now c.args.tree.now c.args.kind c.args.listed.now c.args.first c.way.here (length c.way.new.items) c.next_on-next.result
    c.way.invariant.walking c.next_on-next.ensures (sym c.is_listed.ensures ∙ c.if-is_listed.false) in
    record {
      so_far = so_far_on c.args.g.now c.args.tree.now c.args.kind c.args.listed.now c.args.first c.way.new.items c.push_reserved.new.self.items c.way.here
          c.next_on-next.result c.way.invariant.so_far c.push_reserved.ensures.items c.next_on-next.ensures (sym c.is_listed.ensures ∙ c.if-is_listed.false);
      walking = subst (λ (k : ℕ). IsWalking c.args.g.now c.args.tree.now c.args.kind c.args.listed.now c.args.first c.next_on-next.result k)
          (sym (ap (λ (xs : List ℕ). length xs) c.push_reserved.ensures.items ∙ length-append c.way.new.items (c.way.here ∷ [])))
          next.walking;
      room = c.push_reserved.ensures.capacity ∙ c.way.invariant.room;
    }
