use Rattle.std.proofs.Common.{◌∙◌, [], sym}
use Rattle.std.proofs.lemmas.Bool.{eqb-false, eqb-true}
use Rattle.proxy_rows.specs.ProxyRows.{Here, Over}
use Rattle.proxy_rows.specs.steps.LabelledGraph.{without_rows}
use Rattle.proxy_rows.proofs.SideEnds.{side_end}
use Rattle.proxy_rows.proofs.rows.side_out.Goals as goal

pub returns-then-eq : goal.returns-then-eq
returns-then-eq c rest = Here (eqb-true _ _ (sym c.eq.ensures ∙ c.if-eq.true) ∙ c.router_of.ensures)

pub unreachable-requires : goal.unreachable-requires
unreachable-requires c =
    let words = c.args.words.now in
    side_end words.graph.now (without_rows words) c.args.at.now c.requires.ground.stands.kept c.args.side c.args.s c.requires.within
    (λ same. eqb-false _ _ (sym c.eq.ensures ∙ c.if-eq.false) (same ∙ sym c.router_of.ensures)) c.requires.on (c.in-None.ensures.none [])

pub returns : goal.returns
returns c rest =
    Over c.in-Some.end (λ same. eqb-false _ _ (sym c.eq.ensures ∙ c.if-eq.false) (same ∙ sym c.router_of.ensures)) (c.in-Some.ensures.some rest)
