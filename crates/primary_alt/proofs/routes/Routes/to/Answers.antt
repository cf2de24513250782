use Rattle.std.proofs.Common.{◌≡◌, ◌∙◌, ℕ, Bool, List, Option, refl, sym, ap, subst}
use Rattle.primary_alt.specs.steps.FirstArcs.{IsTable}
use Rattle.primary_alt.specs.RoutesMade.{AreAreaNodes}
use Rattle.primary_alt.proofs.ColumnsGive.{has_columns, is_table, leads_of, made, networks_of}
use Rattle.primary_alt.proofs.routes.Routes.to.Goals as goal

-- by the lists that were made
table_by : (networks networks' : List Bool) (leads leads' : List ℕ) (columns : List (Option (List (Option ℕ)))) → networks' ≡ networks → leads' ≡ leads
    → IsTable networks leads columns → IsTable networks' leads' columns
table_by networks networks' leads leads' columns same same' is =
    subst (λ (xs : List Bool). IsTable xs leads' columns) (sym same) (subst (λ (xs : List ℕ). IsTable networks xs columns) (sym same') is)

pub first_columns-requires-clause-arcs : goal.first_columns-requires-clause-arcs
first_columns-requires-clause-arcs c = c.deref.ensures.value ∙ c.in_ok-arcs.ensures.arcs

pub area_nodes-requires : goal.area_nodes-requires
area_nodes-requires c = c.requires.fits.nodes

pub island_nodes-requires : goal.island_nodes-requires
island_nodes-requires c =
    subst (λ (xs : List ℕ). AreAreaNodes c.args.area.now.ids c.args.g.now.ids xs) (sym c.deref-3.ensures.value) c.in_ok-spots.ensures

pub bonds_of_links-requires-clause-arcs : goal.bonds_of_links-requires-clause-arcs
bonds_of_links-requires-clause-arcs c = c.deref-4.ensures.value ∙ c.in_ok-arcs.ensures.arcs

pub bonds_of_links-requires-clause-fits : goal.bonds_of_links-requires-clause-fits
bonds_of_links-requires-clause-fits c = c.requires.fits

pub bonds_of_links-requires-clause-kept : goal.bonds_of_links-requires-clause-kept
bonds_of_links-requires-clause-kept c = c.all_arcs.ensures.kept

pub invariant_of-result : goal.invariant_of-result
invariant_of-result c =
    let area = c.args.area.now in
    table_by (networks_of area.ids) c.in_ok-networks.networks.items (leads_of area.arcs) c.in_ok-leads.leads.items c.in_ok-columns.columns.items
    c.in_ok-networks.ensures (c.in_ok-leads.ensures ∙ ap leads_of (c.deref-2.ensures.value ∙ c.in_ok-arcs.ensures.arcs))
    (is_table area c.args.destinations.now c.in_ok-columns.columns.items c.all_arcs.ensures.kept c.in_ok-columns.ensures)

pub returns-clause-made : goal.returns-clause-made
returns-clause-made c =
    let area = c.args.area.now in
    made area c.args.g.now c.args.link_of.now c.args.destinations.now c.in_ok-networks.networks.items c.in_ok-leads.leads.items c.in_ok-columns.columns.items c.in_ok-nodes.nodes.items
    c.in_ok-links.links.items c.in_ok-spots.spots.items c.in_ok-bonds.bonds.items c.all_arcs.ensures.kept c.in_ok-columns.ensures c.in_ok-networks.ensures
    (c.in_ok-leads.ensures ∙ ap leads_of (c.deref-2.ensures.value ∙ c.in_ok-arcs.ensures.arcs)) c.requires.fits c.in_ok-links.ensures.items c.in_ok-nodes.ensures c.in_ok-spots.ensures
    c.in_ok-bonds.ensures

pub returns-clause-columns : goal.returns-clause-columns
returns-clause-columns c =
    has_columns c.args.area.now c.args.destinations.now c.in_ok-networks.networks.items c.in_ok-leads.leads.items c.in_ok-columns.columns.items _ c.in_ok-columns.ensures c.in_ok-networks.ensures refl

pub returns-clause-links : goal.returns-clause-links
returns-clause-links c = c.in_ok-links.ensures.items

pub first_columns-requires-clause-within : goal.first_columns-requires-clause-within
first_columns-requires-clause-within c = c.requires.within
