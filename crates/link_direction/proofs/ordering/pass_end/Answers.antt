use Rattle.std.proofs.Common.{slice_index_or, arith}
use Rattle.std.proofs.lemmas.Bool.{iff_false}
use Rattle.link_direction.proofs.EndPassed.{at_end, no_end, grown, room_for, pass_over}
use Rattle.link_direction.proofs.TakenOff.{end_kept, some_left}
use Rattle.link_direction.proofs.ordering.pass_end.Goals as goal

pub counts_over-requires-clause-link : goal.counts_over-requires-clause-link
counts_over-requires-clause-link c =
    let turn = c.requires.turn in
    (end_kept c.args.g.now c.args.x turn.passed c.args.end.now turn.turn.under_way.kept turn.end_here).link

pub take_off-requires-clause-node : goal.take_off-requires-clause-node
take_off-requires-clause-node c =
    let turn = c.requires.turn in
    omega (
      arith,
      (end_kept c.args.g.now c.args.x turn.passed c.args.end.now turn.turn.under_way.kept turn.end_here).to,
      turn.turn.under_way.are_counts.one_each,
    )

pub take_off-requires-clause-some : goal.take_off-requires-clause-some
take_off-requires-clause-some c =
    let turn = c.requires.turn in
    some_left c.args.g.now turn.turn.root c.args.marks.now turn.turn.place turn.passed c.args.counts.now.items c.args.order.now.items c.args.x c.args.end.now
    (at_end c.args.g.now turn.turn.root c.args.marks.now turn.turn.place turn.passed c.args.counts.now.items c.args.order.now.items c.args.x c.args.end.now
    turn.turn.under_way turn.turn.here turn.end_here (c.counts_over.ensures.0 c.if-counts_over.true))

pub take_off-requires-clause-room : goal.take_off-requires-clause-room
take_off-requires-clause-room c =
    let turn = c.requires.turn in
    let few = room_for c.args.g.now turn.turn.root c.args.marks.now turn.turn.place turn.passed c.args.counts.now.items c.args.order.now.items c.args.x c.args.end.now
    (at_end c.args.g.now turn.turn.root c.args.marks.now turn.turn.place turn.passed c.args.counts.now.items c.args.order.now.items c.args.x c.args.end.now
    turn.turn.under_way turn.turn.here turn.end_here (c.counts_over.ensures.0 c.if-counts_over.true)) in
    omega (arith, few, c.requires.room)

pub returns-then-counts_over-clause-on : goal.returns-then-counts_over-clause-on
returns-then-counts_over-clause-on c = λ root place passed here end_here state.
    pass_over c.args.g.now root c.args.marks.now place passed c.args.counts.now.items c.take_off.new.counts.items c.args.order.now.items c.take_off.new.order.items
    c.args.x c.args.end.now
    (at_end c.args.g.now root c.args.marks.now place passed c.args.counts.now.items c.args.order.now.items c.args.x c.args.end.now state here end_here
    (c.counts_over.ensures.0 c.if-counts_over.true)) c.take_off.ensures.counts c.take_off.ensures.put c.take_off.ensures.kept

pub returns-then-counts_over-clause-here : goal.returns-then-counts_over-clause-here
returns-then-counts_over-clause-here c = λ place here.
    grown c.args.order.now.items c.take_off.new.order.items c.args.end.now.to (slice_index_or c.args.counts.now.items c.args.end.now.to 0) place c.args.x
    c.take_off.ensures.put c.take_off.ensures.kept here

pub returns-else-counts_over-clause-on : goal.returns-else-counts_over-clause-on
returns-else-counts_over-clause-on c = λ root place passed here end_here state.
    no_end c.args.g.now root c.args.marks.now place passed c.args.counts.now.items c.args.order.now.items c.args.x c.args.end.now state here end_here
    (iff_false c.counts_over.ensures c.if-counts_over.false)
