use Rattle.std.proofs.Common.{◌-◌, length, arith}
use Rattle.std.proofs.lemmas.Bool.{iff_false}
use Rattle.gadag_ears.proofs.MarkedAlong.{ear_closed, ear_open, ear_sole, in_at, link_there, none_sole, over_some, over_there}
use Rattle.gadag_ears.proofs.marking.mark_ear.Goals as goal

pub onward-last-requires-clause-within : goal.onward-last-requires-clause-within
onward-last-requires-clause-within c =
    (c.requires.can.each c.index-new-new.result
    (in_at c.args.new.now (length c.args.new.now - 1) c.index-new-new.result (omega (arith, c.requires.can.some_node)) c.index-new-new.is)).within

pub onward-last-requires-clause-some : goal.onward-last-requires-clause-some
onward-last-requires-clause-some c =
    let over = c.requires.can.each c.index-new-new.result
    (in_at c.args.new.now (length c.args.new.now - 1) c.index-new-new.result (omega (arith, c.requires.can.some_node)) c.index-new-new.is) in
    over_some c.args.kind c.args.tree.now c.index-new-new.result over.link over.over

pub set_mark-requires-clause-link : goal.set_mark-requires-clause-link
set_mark-requires-clause-link c = (link_there c.args.g.now c.args.link c.args.x c.requires.can.to c.requires.can.touches).within

pub returns-then-is_of_one_link-clause-marked : goal.returns-then-is_of_one_link-clause-marked
returns-then-is_of_one_link-clause-marked c = λ first stop others are begins.
    let sole = c.is_of_one_link.ensures.0 c.if-is_of_one_link.true in
    ear_sole c.args.g.now c.args.tree.now c.args.kind c.args.x c.args.link c.args.new.now c.args.begins first stop others c.index-new-new.result c.onward-last.result
    c.args.marks.now.items c.set_mark.new.marks.items c.requires.can c.requires.one_each c.index-new-new.is c.onward-last.ensures sole.1 are (begins.0 sole.0)
    c.set_mark.ensures

pub mark_way-requires-clause-not_sole : goal.mark_way-requires-clause-not_sole
mark_way-requires-clause-not_sole c =
    none_sole c.args.g.now c.args.tree.now c.args.kind c.args.x c.args.link c.args.new.now c.args.begins c.index-new-new.result c.onward-last.result
    c.requires.can c.index-new-new.is c.onward-last.ensures (iff_false c.is_of_one_link.ensures c.if-is_of_one_link.false)

pub set_mark-requires-then-begins-clause-link : goal.set_mark-requires-then-begins-clause-link
set_mark-requires-then-begins-clause-link c =
    (over_there c.args.g.now c.args.tree.now c.args.kind c.index-new-new.result c.onward-last.result (c.requires.can.each c.index-new-new.result
    (in_at c.args.new.now (length c.args.new.now - 1) c.index-new-new.result (omega (arith, c.requires.can.some_node)) c.index-new-new.is))
    c.onward-last.ensures).within

pub returns-then-begins-clause-marked : goal.returns-then-begins-clause-marked
returns-then-begins-clause-marked c = λ first stop others are begins.
    ear_closed c.args.g.now c.args.tree.now c.args.kind c.args.x c.args.link c.args.new.now c.args.begins first stop others c.index-new-new.result c.onward-last.result
    c.args.marks.now.items c.mark_way.new.marks.items c.set_mark-then-begins.new.marks.items c.requires.can c.requires.one_each c.index-new-new.is
    c.onward-last.ensures (λ same. iff_false c.is_of_one_link.ensures c.if-is_of_one_link.false (c.if-begins.true, same)) are (begins.0 c.if-begins.true)
    c.mark_way.ensures c.set_mark-then-begins.ensures

pub returns-else-begins-clause-marked : goal.returns-else-begins-clause-marked
returns-else-begins-clause-marked c = λ first stop others are begins.
    ear_open c.args.g.now c.args.tree.now c.args.kind c.args.x c.args.link c.args.new.now first stop others c.args.marks.now.items c.mark_way.new.marks.items
    are (iff_false begins c.if-begins.false) c.mark_way.ensures
