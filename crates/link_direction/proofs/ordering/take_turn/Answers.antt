use Rattle.std.proofs.Common.{◌≡◌, ◌∙◌, ℕ, length, refl, subst, arith}
use Rattle.std.proofs.lemmas.Option.{slice_get_read}
use Rattle.mrt_graph.proofs.ListPlaces.{contains_at}
use Rattle.link_direction.specs.steps.Counting.{IsEndOf, IsUnderWay}
use Rattle.link_direction.proofs.QueueEnds.{turn_over}
use Rattle.link_direction.proofs.ordering.take_turn.Goals as goal

pub ends-ends-requires : goal.ends-ends-requires
ends-ends-requires c =
    let turn = c.requires.turn in turn.under_way.within c.args.x (contains_at c.args.order.now.items turn.place c.args.x turn.here)

pub pass_end-requires-clause-turn : goal.pass_end-requires-clause-turn
pass_end-requires-clause-turn c = record {
  passed = c.loop-end.end-index;
  turn = c.loop-end.invariant.turn;
  end_here = record {
    ends = c.ends-ends.result.now;
    list = c.ends-ends.ensures.value;
    there = slice_get_read c.ends-ends.result.now (length c.ends-ends.result.now) c.loop-end.end-index c.end-item.result refl c.loop-end-test.true c.end-item.is;
  };
}

pub loop-end-preserved : goal.loop-end-preserved
loop-end-preserved c =
    let there = slice_get_read c.ends-ends.result.now (length c.ends-ends.result.now) c.loop-end.end-index c.end-item.result refl c.loop-end-test.true c.end-item.is in
    let end_here : IsEndOf c.args.g.now c.args.x c.loop-end.end-index c.end-item.result = record { ends = c.ends-ends.result.now; list = c.ends-ends.ensures.value; there = there } in
    let turn = c.loop-end.invariant.turn in
    record {
      on = λ root place here state. c.pass_end.ensures.on root place c.loop-end.end-index (c.loop-end.invariant.here place here) end_here
          (c.loop-end.invariant.on root place here state);
      here = λ place here. c.pass_end.ensures.here place (c.loop-end.invariant.here place here);
      turn = record {
        root = turn.root;
        place = turn.place;
        here = c.pass_end.ensures.here turn.place turn.here;
        under_way = c.pass_end.ensures.on turn.root turn.place c.loop-end.end-index turn.here end_here turn.under_way;
      };
      room = c.pass_end.ensures.room ∙ c.loop-end.invariant.room;
    }

pub returns-clause-on : goal.returns-clause-on
returns-clause-on c = λ root place here state.
    let all : c.loop-end.end-index ≡ length c.ends-ends.result.now = omega (arith, c.loop-end.auto.end-index-end, c.loop-end-test.false) in
    turn_over c.args.g.now root c.args.marks.now place c.args.x c.ends-ends.result.now c.loop-end.counts.items c.loop-end.order.items
    (subst (λ (k : ℕ). IsUnderWay c.args.g.now root c.args.marks.now place k c.loop-end.counts.items c.loop-end.order.items) all (c.loop-end.invariant.on root place here state))
    (c.loop-end.invariant.here place here) c.ends-ends.ensures.value
