use Rattle.std.proofs.Common.{length, refl, arith}
use Rattle.std.proofs.lemmas.Option.{slice_get_read, slice_get_within}
use Rattle.gadag_ears.specs.steps.Growing.{IsMarked}
use Rattle.gadag_ears.proofs.EndsPassed.{at_end, here_within, one_more_passed, turn_begun, turn_still}
use Rattle.gadag_ears.proofs.turn.neighbour_ears.Goals as goal

pub ends-ends-requires : goal.ends-ends-requires
ends-ends-requires c = here_within c.args.g.now c.requires.turn.root c.args.tree.now c.args.x c.args.growing.now c.requires.turn.turn

pub loop-end-init : goal.loop-end-init
loop-end-init c = record {
  in_turn = turn_begun c.requires.turn c.requires.room;
  children = c.requires.children;
  passed = λ j end early at. absurd (omega (arith, early));
}

pub neighbour_ear-requires-clause-at : goal.neighbour_ear-requires-clause-at
neighbour_ear-requires-clause-at c =
    let ends = c.ends-ends.result.now in
    at_end c.args.g.now c.args.x c.loop-end.end-index (λ end. IsMarked c.loop-end.growing.listed.items end.to) ends c.end-item.result c.ends-ends.ensures.value
    (slice_get_read ends (length ends) c.loop-end.end-index c.end-item.result refl c.loop-end-test.true c.end-item.is) c.loop-end.invariant.passed

pub loop-end-preserved : goal.loop-end-preserved
loop-end-preserved c =
    let there = slice_get_read c.ends-ends.result.now (length c.ends-ends.result.now) c.loop-end.end-index c.end-item.result refl c.loop-end-test.true c.end-item.is in
    record {
      in_turn = turn_still c.loop-end.invariant.in_turn c.neighbour_ear.ensures.turn c.neighbour_ear.ensures.room c.neighbour_ear.ensures.order;
      children = λ v parent. c.neighbour_ear.ensures.grows v (c.loop-end.invariant.children v parent);
      passed = one_more_passed (λ end. IsMarked c.loop-end.growing.listed.items end.to) (λ end. IsMarked c.neighbour_ear.new.growing.listed.items end.to)
          c.ends-ends.result.now c.loop-end.end-index c.end-item.result there
          (λ other before. c.neighbour_ear.ensures.grows other.to before) c.loop-end.invariant.passed c.neighbour_ear.ensures.entered;
    }

pub returns-clause-done : goal.returns-clause-done
returns-clause-done c = record {
  ends = c.ends-ends.result.now;
  list = c.ends-ends.ensures.value;
  marked = λ k end at. c.loop-end.invariant.passed k end
      (omega (arith, slice_get_within c.ends-ends.result.now k end at, c.loop-end-test.false)) at;
}
