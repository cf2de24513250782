use Rattle.std.proofs.Common.{◌∙◌, ℕ, List, subst, take_all}
use Rattle.gadag_ears.specs.steps.Marking.{AreSetAlong}
use Rattle.gadag_ears.proofs.EarMarked.{set_out}
use Rattle.gadag_ears.proofs.MarkedAlong.{along_more, in_at, link_there, over_some, over_there}
use Rattle.gadag_ears.proofs.marking.mark_way.Goals as goal

pub onward-over-requires-clause-within : goal.onward-over-requires-clause-within
onward-over-requires-clause-within c = (c.requires.can.each c.index-new-k.result (in_at c.args.new.now c.loop-k.k c.index-new-k.result c.loop-k-test.true c.index-new-k.is)).within

pub onward-over-requires-clause-some : goal.onward-over-requires-clause-some
onward-over-requires-clause-some c =
    let over = c.requires.can.each c.index-new-k.result (in_at c.args.new.now c.loop-k.k c.index-new-k.result c.loop-k-test.true c.index-new-k.is) in
    over_some c.args.kind c.args.tree.now c.index-new-k.result over.link over.over

pub set_mark-requires-in-loop-k-clause-link : goal.set_mark-requires-in-loop-k-clause-link
set_mark-requires-in-loop-k-clause-link c =
    (over_there c.args.g.now c.args.tree.now c.args.kind c.index-new-k.result c.onward-over.result
    (c.requires.can.each c.index-new-k.result (in_at c.args.new.now c.loop-k.k c.index-new-k.result c.loop-k-test.true c.index-new-k.is)) c.onward-over.ensures).within

pub loop-k-preserved : goal.loop-k-preserved
loop-k-preserved c =
    along_more c.args.g.now c.args.tree.now c.args.kind c.args.x c.args.link c.args.new.now c.args.begins c.loop-k.k c.index-new-k.result
    c.index-new-k-in-loop-k.result c.onward-over.result c.args.marks.now.items c.loop-k.marks.items c.set_mark-in-loop-k.new.marks.items c.requires.can
    c.requires.one_each c.requires.not_sole c.loop-k-test.true c.index-new-k.is c.index-new-k-in-loop-k.is c.onward-over.ensures c.loop-k.invariant
    c.set_mark-in-loop-k.ensures

pub set_mark-requires-clause-link : goal.set_mark-requires-clause-link
set_mark-requires-clause-link c = (link_there c.args.g.now c.args.link c.args.x c.requires.can.to c.requires.can.touches).within

pub set_mark-requires-in-loop-k-clause-one_each : goal.set_mark-requires-in-loop-k-clause-one_each
set_mark-requires-in-loop-k-clause-one_each c = c.loop-k.invariant.one_each ∙ c.requires.one_each

pub loop-k-init : goal.loop-k-init
loop-k-init c =
    let it = link_there c.args.g.now c.args.link c.args.x c.requires.can.to c.requires.can.touches in
    set_out c.args.g.now c.args.tree.now c.args.kind c.args.x c.args.link c.args.marks.now.items c.set_mark.new.marks.items it.link c.requires.one_each it.within it.is
    (c.set_mark.ensures it.link it.is)

pub returns : goal.returns
returns c =
    subst (λ (some : List ℕ). AreSetAlong c.args.g.now c.args.tree.now c.args.kind c.args.x c.args.link some c.args.marks.now.items c.loop-k.marks.items)
    (take_all c.loop-k.k c.args.new.now c.loop-k-test.false) c.loop-k.invariant
