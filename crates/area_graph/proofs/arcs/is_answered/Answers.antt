use Rattle.std.proofs.Common.{◌∙◌, rules}
use Rattle.std.proofs.lemmas.Bool.{eq-eqb, ne_eqb}
use Rattle.area_graph.proofs.EntriesInOrder.{is_arc_at, is_arc_past}
use Rattle.area_graph.proofs.arcs.is_answered.Goals as goal

pub returns-then-back-entry-clause-answered : goal.returns-then-back-entry-clause-answered
returns-then-back-entry-clause-answered c =
    let is = is_arc_at c.args.entries.now c.args.entry c.first_back-first.result c.in-Some.back.now c.requires.sorted c.first_back-first.ensures.first (search rules) (search rules) in
    rw (eq-eqb c.in-Some.back.now.tail c.args.entry.far c.if-back-entry.true) at is

pub returns-else-back-entry-clause-answered : goal.returns-else-back-entry-clause-answered
returns-else-back-entry-clause-answered c =
    let is = is_arc_at c.args.entries.now c.args.entry c.first_back-first.result c.in-Some.back.now c.requires.sorted c.first_back-first.ensures.first (search rules) (search rules) in
    let no = ne_eqb c.in-Some.back.now.tail c.args.entry.far c.if-back-entry.false in
    no ∙ (rw no at is)

pub returns-in-None-clause-answered : goal.returns-in-None-clause-answered
returns-in-None-clause-answered c = is_arc_past c.args.entries.now c.args.entry c.first_back-first.result c.requires.sorted c.first_back-first.ensures.first (search rules)
