use Rattle.std.proofs.Common.{◌==◌, ◌∙◌, sym}
use Rattle.std.proofs.lemmas.Bool.{eqb-true}
use Rattle.std.proofs.lemmas.Bool.Decides.{Decides-at, Decides-eqb}
use Rattle.block_spf.specs.declared.reach.Dir.TheVariants.{Up}
use Rattle.link_direction.proofs.TwoNodes.{place_says}
use Rattle.order_repair.proofs.HopsTell.{or_else}
use Rattle.order_repair.proofs.order_tests.is_over_link.Goals as goal

pub returns-then-eq-2 : goal.returns-then-eq-2
returns-then-eq-2 c = λ root w hops.
    let g = c.args.view.now.graph.now in
    let from = c.args.from in
    let s = c.args.pair.now.source in
    let here = place_says g c.args.view.now.directed.now w from c.place.result hops.are.says c.requires.from c.place.ensures in
    let there = place_says g c.args.view.now.directed.now w s c.place-2.result hops.are.says c.requires.source.within c.place-2.ensures in
    let same = eqb-true c.place.result.block c.place-2.result.block (sym c.eq-2.ensures ∙ c.if-eq-2.true) in
    let tells = c.is_reached.ensures w Up s hops.goes_up in
    or_else _ _ c.eq.result c.is_reached.result (Decides-at c.eq.result (from == s) c.eq.ensures (Decides-eqb from s)) c.if-eq.false
    (λ yes. (sym here.1 ∙ same ∙ there.1, tells.0 yes), λ it. tells.1 it.1)
