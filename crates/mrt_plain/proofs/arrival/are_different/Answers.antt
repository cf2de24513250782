use Rattle.std.proofs.Common.{true≢false, sym, ◌∙◌, subst, arith, refl}
use Rattle.std.proofs.lemmas.List.{take_all}
use Rattle.mrt_graph.specs.Reaches.{AreDifferent}
use Rattle.mrt_plain.proofs.Shared.{contains_tells, different_more}
use Rattle.mrt_plain.proofs.arrival.are_different.Goals as goal

pub loop-later-preserved : goal.loop-later-preserved
loop-later-preserved c =
    different_more c.args.nodes.now c.loop-later.later c.index-nodes-later.result c.loop-later-test.true c.index-nodes-later.is c.loop-later.invariant
    (λ has. true≢false (sym ((contains_tells _ _ _ c.contains.ensures.cases).1 has) ∙ c.if-contains.false))

pub returns : goal.returns
returns c = (λ _. subst AreDifferent (take_all _ _ (omega arith)) c.loop-later.invariant, λ _. refl)
