use Rattle.std.proofs.Common.{◌≡◌, ◌∙◌, ℕ, List, Some, get_or, length, slice_get, sym, ap, subst, arith, true≢false}
use Rattle.area_graph.specs.declared.area_types.Arc.{Arc}
use Rattle.area_graph.specs.Parts.{AreaParts}
use Rattle.primary_alt.specs.steps.Beginnings.{IsFirst}
use Rattle.primary_alt.specs.Primaries.{IsPrimary}
use Rattle.primary_alt.proofs.AreaArcs.{arcs_between}
use Rattle.primary_alt.proofs.Beginning.{at_own, first_within, over_one, over_two, same_arc}
use Rattle.primary_alt.proofs.least_walks.primary_over.Goals as goal

-- the arc of a first number, that is read from a list that is the area's arcs
first_read : (area : AreaParts) (s t number : ℕ) → IsFirst area s t number → (own : List Arc) (place : ℕ) (read : Arc) → own ≡ area.arcs
    → place ≡ number → read ≡ get_or own place read → slice_get area.arcs number ≡ Some read
first_read area s t number is own place read same here stands =
    at_own area.arcs own place number read same here (omega (arith, here, ap length same, first_within area s t number is)) stands

pub bounds-arcs-get : goal.bounds-arcs-get
bounds-arcs-get c =
    omega (arith, c.get.ensures.value, ap length c.requires.arcs, first_within c.args.area.now c.args.source c.args.t c.args.begin.first c.requires.begin.first)

pub leads_over-requires : goal.leads_over-requires
leads_over-requires c =
    (arcs_between c.args.area.now c.requires.kept).tos c.args.begin.first c.index-arcs-get.result
    (first_read c.args.area.now c.args.source c.args.t c.args.begin.first c.requires.begin.first c.args.arcs.now c.get.result c.index-arcs-get.result
    c.requires.arcs c.get.ensures.value c.index-arcs-get.is)

pub returns-then-not-leads_over : goal.returns-then-not-leads_over
returns-then-not-leads_over c =
    let area = c.args.area.now in
    let begin = c.args.begin in
    let at = first_read area c.args.source c.args.t begin.first c.requires.begin.first c.args.arcs.now c.get.result c.index-arcs-get.result
    c.requires.arcs c.get.ensures.value c.index-arcs-get.is in
    over_one area c.args.source c.args.t begin.first c.index-arcs-get.result c.requires.apart c.requires.begin.first at
    (λ leads. true≢false (sym (c.leads_over.ensures.1 leads) ∙ c.if-not-leads_over.true))

pub bounds-arcs-get-else-not-leads_over : goal.bounds-arcs-get-else-not-leads_over
bounds-arcs-get-else-not-leads_over c =
    let area = c.args.area.now in
    let begin = c.args.begin in
    let at = first_read area c.args.source c.args.t begin.first c.requires.begin.first c.args.arcs.now c.get.result c.index-arcs-get.result
    c.requires.arcs c.get.ensures.value c.index-arcs-get.is in
    let first = same_arc area c.args.source c.args.t begin.first c.index-arcs-get.result c.requires.begin.first at in
    let second = c.requires.begin.second c.index-arcs-get.result first (c.leads_over.ensures.0 c.if-not-leads_over.false) in
    omega (arith, c.get-2.ensures.value, ap length c.requires.arcs, first_within area c.index-arcs-get.result.to c.args.t begin.second second)

pub bounds-arcs-get-else-not-leads_over-2 : goal.bounds-arcs-get-else-not-leads_over-2
bounds-arcs-get-else-not-leads_over-2 c = bounds-arcs-get-else-not-leads_over c

pub returns : goal.returns
returns c =
    let area = c.args.area.now in
    let begin = c.args.begin in
    let at = first_read area c.args.source c.args.t begin.first c.requires.begin.first c.args.arcs.now c.get.result c.index-arcs-get.result
    c.requires.arcs c.get.ensures.value c.index-arcs-get.is in
    let first = same_arc area c.args.source c.args.t begin.first c.index-arcs-get.result c.requires.begin.first at in
    let leads = c.leads_over.ensures.0 c.if-not-leads_over.false in
    let second = c.requires.begin.second c.index-arcs-get.result first leads in
    let at' = first_read area c.index-arcs-get.result.to c.args.t begin.second second c.args.arcs.now c.get-2.result c.index-arcs-get-2.result
    c.requires.arcs c.get-2.ensures.value c.index-arcs-get-2.is in
    subst (λ (onward : Arc). IsPrimary area c.args.source c.args.t (Some (record { first = begin.first; second = Some begin.second; next = onward.to }))) c.index-arcs-get-2.is
    (over_two area c.args.source c.args.t begin.first begin.second c.index-arcs-get.result c.index-arcs-get-2.result c.requires.apart c.requires.begin.first at leads second at')
