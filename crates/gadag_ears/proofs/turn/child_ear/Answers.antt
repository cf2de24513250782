use Rattle.std.proofs.Common.{◌∙◌, Bool, List, length, sym, ap, subst}
use Rattle.gadag_ears.specs.steps.Growing.{IsMarked}
use Rattle.gadag_ears.proofs.EndsPassed.{child_starts, end_within}
use Rattle.gadag_ears.proofs.turn.child_ear.Goals as goal

pub is_new_child-requires-clause-search : goal.is_new_child-requires-clause-search
is_new_child-requires-clause-search c = record { root = c.requires.turn.root; searched = c.requires.turn.turn.searched }

pub is_new_child-requires-clause-within : goal.is_new_child-requires-clause-within
is_new_child-requires-clause-within c =
    end_within c.args.g.now c.args.x c.requires.at.place c.requires.at.ends c.args.end.now c.requires.turn.turn.searched.kept c.requires.at.list c.requires.at.there

pub is_new_child-requires-clause-one_mark_each : goal.is_new_child-requires-clause-one_mark_each
is_new_child-requires-clause-one_mark_each c = ap (λ (xs : List Bool). length xs) c.deref.ensures.value ∙ c.requires.turn.turn.one_mark_each

pub grow-requires-clause-starts : goal.grow-requires-clause-starts
grow-requires-clause-starts c =
    child_starts c.args.g.now c.args.tree.now c.args.growing.now c.args.x c.args.end.now c.requires.turn c.requires.at
    (c.is_new_child.ensures.child c.if-is_new_child.true)
    (λ mark. c.is_new_child.ensures.outside c.if-is_new_child.true
    (subst (λ (xs : List Bool). IsMarked xs c.args.end.now.to) (sym c.deref.ensures.value) mark))
