use Rattle.std.proofs.Common.{◌≡◌, ◌∙◌, ℕ, Some, rules, sym, subst}
use Rattle.mrt_graph.specs.Leads.{leads}
use Rattle.mrt_rows.proofs.SoleRows.{mark_says}
use Rattle.order_repair.specs.declared.arrow.Arrow.{Arrow}
use Rattle.order_repair.specs.OrderChoice.{AreLinkTests, ByTests, IsPlain}
use Rattle.order_repair.specs.ColorTable.{plain_color}
use Rattle.order_repair.proofs.Arrows.{IsArrow, arrow_is, plain_role}
use Rattle.order_repair.proofs.choice.link_color.Goals as goal

pub returns-in-Closing : goal.returns-in-Closing
returns-in-Closing c = search rules

pub returns-in_default : goal.returns-in_default
returns-in_default c = λ root w hops not_sole.
    let g = c.args.view.now.graph.now in
    let d = c.args.view.now.directed.now in
    let e = c.args.failed in
    let s = c.args.pair.now.source in
    let t = c.args.pair.now.to in
    let role = mark_says g d w e c.mark-mark.result hops.are.says c.requires.failed c.mark-mark.ensures in
    let arrow =
    subst (λ (a : Arrow). IsArrow g w e a) (sym c.arrow_of-arrow.ensures)
    (arrow_is g d w e c.link.result c.mark-mark.result hops.are.says c.link.ensures.within.ascending c.link.ensures.value c.mark-mark.ensures) in
    let to = c.arrow_of-arrow.result.to in
    IsPlain to (plain_role (w.role e) (λ closing. c.in_default.not-Closing (role ∙ closing)) not_sole)
    (subst (λ (u : ℕ). leads g.links e u ≡ Some to) arrow.from arrow.onward)
    (subst (λ (u : ℕ). ByTests (AreLinkTests g w s t u to) (plain_color c.args.pair.now.tag) c.color_for_plain.result) arrow.from
    (c.color_for_plain.ensures root w hops))
