use Rattle.std.proofs.Common.{◌∙◌, sym}
use Rattle.std.proofs.lemmas.Bool.{eqb-false, eqb-true}
use Rattle.link_direction.proofs.TwoNodes.{place_says, relates}
use Rattle.mrt_rows.proofs.OrderedGraphs.{graph_of}
use Rattle.order_repair.proofs.TagFound.{found}
use Rattle.order_repair.proofs.tagging.tag_for.Goals as goal

pub returns-then-eq : goal.returns-then-eq
returns-then-eq c = λ root w hops k h shares. shares.two (eqb-true c.args.s c.args.t (sym c.eq.ensures ∙ c.if-eq.true))

pub returns : goal.returns
returns c = λ root w hops.
    let g = c.args.view.now.graph.now in
    let d = c.args.view.now.directed.now in
    let s = c.args.s in
    let t = c.args.t in
    let r = c.relation_of-relation.result in
    let related =
    relates w s t c.place-here.result c.place-there.result (place_says g d w s c.place-here.result hops.are.says c.requires.source.within c.place-here.ensures)
    (place_says g d w t c.place-there.result hops.are.says c.requires.to c.place-there.ensures) r c.relation_of-relation.ensures in
    rw c.tag_by.ensures
    (found (graph_of g root w d c.requires.source.kept hops.are) s t c.requires.source.within c.requires.to
    (eqb-false s t (sym c.eq.ensures ∙ c.if-eq.false)) r c.hop.result c.hop-2.result related
    (hops.goes_up.each t c.hop.result c.hop.ensures) (hops.goes_down.each t c.hop-2.result c.hop-2.ensures))
