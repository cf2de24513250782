use Rattle.std.proofs.Common.{◌≡◌, ◌≤◌, ◌∙◌, ℕ, List, Option, length, sym, ap, subst, arith}
use Rattle.area_graph.specs.declared.area_types.Arc.{Arc}
use Rattle.area_graph.specs.AreaInvariant.{IsArea}
use Rattle.area_graph.specs.Parts.{AreaParts}
use Rattle.primary_alt.specs.declared.beginnings.Beginning.{Beginning}
use Rattle.primary_alt.specs.steps.Attaining.{AreBetween}
use Rattle.primary_alt.specs.steps.Beginnings.{AreBeginnings}
use Rattle.primary_alt.specs.steps.LeastBeginnings.{AreLeast}
use Rattle.primary_alt.specs.steps.Onward.{CostInRow}
use Rattle.primary_alt.proofs.AreaArcs.{arcs_between}
use Rattle.primary_alt.proofs.BeginningsFound.{at_source, beginnings, cost_in_row}
use Rattle.primary_alt.proofs.RouterFacts.{router_from}
use Rattle.primary_alt.proofs.least_walks.primaries_from.Goals as goal

-- of equal lists
between : (area : AreaParts) (known : List (Option ℕ)) (own : List Arc) → IsArea area → length known ≡ length area.ids → own ≡ area.arcs → AreBetween (length known) own
between area known own kept one_each same =
    subst (λ (n : ℕ). AreBetween n own) (sym one_each) (subst (λ (xs : List Arc). AreBetween (length area.ids) xs) (sym same) (arcs_between area kept))

pub least_beginnings-requires-clause-few : goal.least_beginnings-requires-clause-few
least_beginnings-requires-clause-few c =
    subst (λ (xs : List Arc). length xs ≤ 32768) (sym (c.deref.ensures.value ∙ c.in_ok-arcs.ensures.arcs)) c.in_ok-arcs.ensures.kept.few_arcs

pub least_beginnings-requires-clause-between : goal.least_beginnings-requires-clause-between
least_beginnings-requires-clause-between c =
    between c.args.area.now c.args.distances.now c.deref.result.now c.in_ok-arcs.ensures.kept
    c.requires.one_each (c.deref.ensures.value ∙ c.in_ok-arcs.ensures.arcs)

pub least_beginnings-requires-clause-costs : goal.least_beginnings-requires-clause-costs
least_beginnings-requires-clause-costs c =
    subst (λ (xs : List Arc). CostInRow xs) (sym (c.deref.ensures.value ∙ c.in_ok-arcs.ensures.arcs)) (cost_in_row c.args.area.now c.in_ok-arcs.ensures.kept)

pub least_beginnings-requires-clause-here : goal.least_beginnings-requires-clause-here
least_beginnings-requires-clause-here c =
    at_source c.args.area.now.arcs c.args.source c.args.distances.now c.requires.from (omega (arith, c.requires.within, c.requires.one_each))

pub entries-requires-clause-kept : goal.entries-requires-clause-kept
entries-requires-clause-kept c = c.in_ok-arcs.ensures.kept

pub entries-requires-clause-arcs : goal.entries-requires-clause-arcs
entries-requires-clause-arcs c = c.deref-2.ensures.value ∙ c.in_ok-arcs.ensures.arcs

pub entries-requires-clause-begins : goal.entries-requires-clause-begins
entries-requires-clause-begins c =
    ap (λ (b : List (Option Beginning)). length b) c.deref-3.ensures.value ∙ c.in_ok-begins.ensures.one_each ∙ c.requires.one_each

pub entries-requires-clause-are : goal.entries-requires-clause-are
entries-requires-clause-are c =
    let area = c.args.area.now in
    let s = c.args.source in
    let known = c.args.distances.now in
    let begins = c.in_ok-begins.begins.items in
    let least : AreLeast area.arcs s known begins =
    subst (λ (xs : List Arc). AreLeast xs s known begins) (c.deref.ensures.value ∙ c.in_ok-arcs.ensures.arcs) c.in_ok-begins.ensures.least in
    subst (λ (b : List (Option Beginning)). AreBeginnings area s b) (sym c.deref-3.ensures.value)
    (beginnings area c.in_ok-arcs.ensures.kept s (router_from area.ids s c.requires.within c.requires.router) known c.requires.one_each c.requires.from
    (at_source area.arcs s known c.requires.from (omega (arith, c.requires.within, c.requires.one_each))) begins least c.in_ok-begins.ensures.one_each)
