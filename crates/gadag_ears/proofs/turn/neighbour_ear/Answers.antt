use Rattle.std.proofs.Common.{◌∙◌, Bool, List, length, sym, ap, arith}
use Rattle.gadag_ears.proofs.EndsPassed.{end_within, neighbour_starts, no_mark}
use Rattle.gadag_ears.proofs.turn.neighbour_ear.Goals as goal

pub is_listed-requires : goal.is_listed-requires
is_listed-requires c =
    omega (
      arith,
      end_within c.args.g.now c.args.x c.requires.at.place c.requires.at.ends c.args.end.now c.requires.turn.turn.searched.kept c.requires.at.list c.requires.at.there,
      ap (λ (xs : List Bool). length xs) c.deref.ensures.value,
      c.requires.turn.turn.one_mark_each,
    )

pub grow-requires-clause-starts : goal.grow-requires-clause-starts
grow-requires-clause-starts c =
    neighbour_starts c.args.g.now c.args.tree.now c.args.growing.now c.args.x c.args.end.now c.requires.turn c.requires.children c.requires.at
    (no_mark c.deref.result.now c.args.growing.now.listed.items c.args.end.now.to c.deref.ensures.value (sym c.is_listed.ensures ∙ c.if-not-is_listed.true))
