use Rattle.std.proofs.Common.{◌∙◌, Option, length, subst, sym}
use Rattle.mrt_graph.specs.declared.link.Element.{Element}
use Rattle.mrt_graph.specs.Alternate.{IsAlternate, Outside}
use Rattle.primary_alt.proofs.Repairs.{none_exactly}
use Rattle.primary_alt.proofs.repair.alternate_by.Goals as goal

pub returns-in-None-clause-color : goal.returns-in-None-clause-color
returns-in-None-clause-color g c = rw (c.in-None.is) Outside

pub returns-in-Some-clause-none : goal.returns-in-Some-clause-none
returns-in-Some-clause-none g c = λ x is two.
    let links = c.args.g.now.links in
    let n = length c.args.g.now.ids in
    let rows = g.R.RowsOf.rows c.args.rows.now in
    none_exactly links n rows c.args.source c.args.to (c.requires.sound c.args.source c.requires.source two) x c.color_round.result
    (subst (λ (f : Option Element). IsAlternate links n rows c.args.source c.args.to f c.color_round.result) (sym c.in-Some.is ∙ is) c.color_round.ensures)
