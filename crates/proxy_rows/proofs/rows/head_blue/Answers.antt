use Rattle.std.proofs.Common.{◌∙◌, sym, arith}
use Rattle.std.proofs.lemmas.Bool.{eqb-false, eqb-true}
use Rattle.proxy_rows.specs.ProxyRows.{Here, Over}
use Rattle.proxy_rows.specs.steps.LabelledGraph.{with_rows}
use Rattle.proxy_rows.proofs.Grounds.{counts, head_within}
use Rattle.proxy_rows.proofs.SideEnds.{head_end}
use Rattle.proxy_rows.proofs.rows.head_blue.Goals as goal

pub returns-then-eq : goal.returns-then-eq
returns-then-eq c rest = Here (eqb-true _ _ (sym c.eq.ensures ∙ c.if-eq.true))

pub first_end-requires-clause-within : goal.first_end-requires-clause-within
first_end-requires-clause-within c =
    let cert = with_rows c.args.words.now c.requires.ground.rest in
    let ground = c.requires.ground.stands in
    omega (arith, head_within c.args.words.now.graph.now cert c.args.at.now ground, (counts c.args.words.now.graph.now cert c.args.at.now ground).nodes)

pub unreachable-requires : goal.unreachable-requires
unreachable-requires c =
    let own = c.requires.ground.rest in
    head_end c.args.words.now.graph.now (with_rows c.args.words.now own) c.args.at.now c.requires.ground.stands (eqb-false _ _ (sym c.eq.ensures ∙ c.if-eq.false))
    (c.in-None.ensures.none own)

pub returns : goal.returns
returns c rest = Over c.in-Some.end (eqb-false _ _ (sym c.eq.ensures ∙ c.if-eq.false)) (c.in-Some.ensures.some rest)
