use Rattle.std.proofs.Common.{◌∙◌, ◌++◌, ℕ, List, [], ◌∷◌, length, refl, sym, ap, subst, arith}
use Rattle.std.proofs.lemmas.Option.{slice_get_read}
use Rattle.mrt_graph.proofs.ListPlaces.{contains_at}
use Rattle.link_direction.specs.steps.Counting.{IsUnderWay}
use Rattle.link_direction.proofs.FromEarsFacts.{root_not_entered}
use Rattle.link_direction.proofs.QueueEnds.{all_over, begins}
use Rattle.link_direction.proofs.TakenOff.{few_listed}
use Rattle.link_direction.proofs.ordering.order_of.Goals as goal

pub loop-place-init : goal.loop-place-init
loop-place-init c = record {
  under_way = subst (λ (xs : List ℕ). IsUnderWay c.args.g.now c.args.root c.args.marks.now 0 0 c.in_ok-counts.counts.items xs)
      (sym (c.push_reserved.ensures.items ∙ ap (λ (xs : List ℕ). xs ++ c.args.root ∷ []) c.in_ok-order.ensures.items))
      (begins c.args.g.now c.args.root c.args.marks.now c.in_ok-counts.counts.items c.node_count.ensures.kept c.requires.root
      (root_not_entered c.args.g.now c.args.root c.requires.from_ears.0 c.args.marks.now c.node_count.ensures.kept c.requires.root c.requires.from_ears.2 c.requires.from_ears.1) c.in_ok-counts.ensures.counts);
  room = omega (arith, c.push_reserved.ensures.capacity, c.in_ok-order.ensures.exact, c.node_count.ensures.count);
}

pub take_turn-requires-clause-turn : goal.take_turn-requires-clause-turn
take_turn-requires-clause-turn c = record {
  root = c.args.root;
  place = c.loop-place.place;
  here = slice_get_read c.loop-place.order.items (length c.loop-place.order.items) c.loop-place.place c.index-x.result.now refl
      (omega (arith, c.loop-place-test.true, c.len.ensures)) c.index-x.ensures;
  under_way = c.loop-place.invariant.under_way;
}

pub loop-place-smaller : goal.loop-place-smaller
loop-place-smaller c =
    let state = c.loop-place.invariant.under_way in
    omega (arith, c.loop-place-test.true, c.len.ensures, few_listed (length c.args.g.now.ids) c.loop-place.order.items state.once state.within)

pub loop-place-preserved : goal.loop-place-preserved
loop-place-preserved c =
    let here = slice_get_read c.loop-place.order.items (length c.loop-place.order.items) c.loop-place.place c.index-x.result.now refl
    (omega (arith, c.loop-place-test.true, c.len.ensures)) c.index-x.ensures in
    record {
      under_way = c.take_turn.ensures.on c.args.root c.loop-place.place here c.loop-place.invariant.under_way;
      room = omega (arith, c.take_turn.ensures.room, c.loop-place.invariant.room);
    }

pub returns-clause-whole : goal.returns-clause-whole
returns-clause-whole c =
    all_over c.args.g.now c.args.root c.args.marks.now c.loop-place.place c.loop-place.counts.items c.loop-place.order.items c.loop-place.invariant.under_way
    (omega (arith, c.loop-place-test.false, c.len.ensures))

pub returns-clause-few : goal.returns-clause-few
returns-clause-few c =
    let state = c.loop-place.invariant.under_way in few_listed (length c.args.g.now.ids) c.loop-place.order.items state.once state.within

pub returns-clause-within : goal.returns-clause-within
returns-clause-within c = λ k v at. c.loop-place.invariant.under_way.within v (contains_at c.loop-place.order.items k v at)
