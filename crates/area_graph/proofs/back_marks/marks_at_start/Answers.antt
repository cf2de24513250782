use Rattle.std.proofs.Common.{◌≡◌, ◌+◌, ◌∙◌, ℕ, length, inl, subst, sym, arith}
use Rattle.area_graph.specs.steps.EntryOrder.{AreBefore}
use Rattle.area_graph.proofs.MarksMove.{all_more, before_first, before_later, marks_begin, none_before}
use Rattle.area_graph.proofs.back_marks.marks_at_start.Goals as goal

pub loop-node-init : goal.loop-node-init
loop-node-init c = record {
  begins = λ v. rw c.in_ok-marks.ensures.items (none_before v 0 c.args.entries.now);
  many = c.in_ok-marks.ensures.len;
  room = omega (arith, c.in_ok-marks.ensures.capacity);
  before = none_before 0 0 c.args.entries.now;
}

pub loop-node-preserved : goal.loop-node-preserved
loop-node-preserved c =
    let xs = c.args.entries.now in
    let found : AreBefore c.loop-node.node 0 xs c.first_from-at.result = before_first c.loop-node.node 0 xs c.first_from-at.result c.first_from-at.ensures in
    let last : length c.loop-node.marks.items ≡ c.loop-node.node = omega (arith, c.loop-node.invariant.many, c.loop-node.marks.ok.0) in
    record {
      begins = rw c.push_reserved.ensures.items
          (all_more (λ v at. AreBefore v 0 xs at) c.loop-node.marks.items c.first_from-at.result 0 c.loop-node.invariant.begins
          (subst (λ (n : ℕ). AreBefore n 0 xs c.first_from-at.result) (sym last) found));
      many = c.push_reserved.ensures.len ∙ omega (arith, c.loop-node.invariant.many);
      room = omega (arith, c.loop-node.invariant.room, c.push_reserved.ensures.capacity);
      before = before_later c.loop-node.node 0 (c.loop-node.node + 1) 0 xs c.first_from-at.result (inl (omega arith)) found;
    }

pub returns-clause-marks : goal.returns-clause-marks
returns-clause-marks c = marks_begin c.args.entries.now c.loop-node.marks.items c.loop-node.invariant.begins
