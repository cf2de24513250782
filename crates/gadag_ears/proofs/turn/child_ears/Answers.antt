use Rattle.std.proofs.Common.{◌≡◌, Some, length, refl, arith}
use Rattle.std.proofs.lemmas.Option.{slice_get_read}
use Rattle.lowpoint_dfs.specs.Subtree.{parent_of}
use Rattle.gadag_ears.specs.steps.Growing.{IsMarked}
use Rattle.gadag_ears.proofs.EndsPassed.{at_end, children_marked, here_within, one_more_passed, turn_begun, turn_still}
use Rattle.gadag_ears.proofs.turn.child_ears.Goals as goal

pub ends-ends-requires : goal.ends-ends-requires
ends-ends-requires c = here_within c.args.g.now c.requires.turn.root c.args.tree.now c.args.x c.args.growing.now c.requires.turn.turn

pub loop-end-init : goal.loop-end-init
loop-end-init c = record {
  in_turn = turn_begun c.requires.turn c.requires.room;
  passed = λ j end early at. absurd (omega (arith, early));
}

pub child_ear-requires-clause-at : goal.child_ear-requires-clause-at
child_ear-requires-clause-at c =
    let ends = c.ends-ends.result.now in
    at_end c.args.g.now c.args.x c.loop-end.end-index (λ end. parent_of c.args.g.now c.args.tree.now end.to ≡ Some c.args.x → IsMarked c.loop-end.growing.listed.items end.to) ends c.end-item.result c.ends-ends.ensures.value
    (slice_get_read ends (length ends) c.loop-end.end-index c.end-item.result refl c.loop-end-test.true c.end-item.is) c.loop-end.invariant.passed

pub loop-end-preserved : goal.loop-end-preserved
loop-end-preserved c =
    let there = slice_get_read c.ends-ends.result.now (length c.ends-ends.result.now) c.loop-end.end-index c.end-item.result refl c.loop-end-test.true c.end-item.is in
    record {
      in_turn = turn_still c.loop-end.invariant.in_turn c.child_ear.ensures.turn c.child_ear.ensures.room c.child_ear.ensures.order;
      passed = one_more_passed (λ end. parent_of c.args.g.now c.args.tree.now end.to ≡ Some c.args.x → IsMarked c.loop-end.growing.listed.items end.to)
          (λ end. parent_of c.args.g.now c.args.tree.now end.to ≡ Some c.args.x → IsMarked c.child_ear.new.growing.listed.items end.to)
          c.ends-ends.result.now c.loop-end.end-index c.end-item.result there
          (λ other before parent. c.child_ear.ensures.grows other.to (before parent)) c.loop-end.invariant.passed c.child_ear.ensures.child;
    }

pub returns-clause-children : goal.returns-clause-children
returns-clause-children c =
    children_marked c.args.g.now c.requires.turn.root c.args.tree.now c.args.x c.args.growing.now c.loop-end.growing.listed.items c.ends-ends.result.now
    c.loop-end.end-index c.requires.turn.turn c.ends-ends.ensures.value c.loop-end-test.false c.loop-end.invariant.passed
