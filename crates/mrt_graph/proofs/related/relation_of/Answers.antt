use Rattle.std.proofs.Common.{◌∙◌, sym}
use Rattle.std.proofs.lemmas.Bool.{eqb-false, eqb-true}
use Rattle.mrt_graph.proofs.related.relation_of.Goals as goal

pub returns-then-eq-2 : goal.returns-then-eq-2
returns-then-eq-2 c = (eqb-false _ _ (sym c.eq.ensures ∙ c.if-eq.false), eqb-true _ _ (sym c.eq-2.ensures ∙ c.if-eq-2.true))
