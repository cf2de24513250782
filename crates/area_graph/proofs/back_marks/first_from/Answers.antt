use Rattle.std.proofs.Common.{◌∙◌, sym, arith}
use Rattle.area_graph.specs.declared.entry.NumberedEntry.{NumberedEntry as Entry}
use Rattle.area_graph.proofs.MarksMove.{before_more, first_found}
use Rattle.area_graph.proofs.back_marks.first_from.Goals as goal

abbrev nothing : Entry
nothing = record { tail = 0; far = 0; metric = 0; link_data = 0; place = 0 }

pub loop-at-preserved : goal.loop-at-preserved
loop-at-preserved c =
    before_more c.args.tail c.args.far c.args.entries.now c.loop-at.at nothing c.loop-at.invariant c.loop-at-test.true (sym c.is_before.ensures ∙ c.if-is_before.true)

pub returns-else-is_before : goal.returns-else-is_before
returns-else-is_before c =
    first_found c.args.tail c.args.far c.args.entries.now c.loop-at.at nothing c.requires.sorted c.loop-at.invariant (λ within. sym c.is_before.ensures ∙ c.if-is_before.false)

pub returns-after-loop-at : goal.returns-after-loop-at
returns-after-loop-at c =
    first_found c.args.tail c.args.far c.args.entries.now c.loop-at.at nothing c.requires.sorted c.loop-at.invariant (λ within. absurd (omega (arith, within, c.loop-at-test.false)))
