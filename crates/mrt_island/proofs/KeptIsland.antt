-- What each island keeps, where the numbers of the area's bonds fit their fields.
use Rattle.std.proofs.Common.{◌≡◌, ◌≤◌, ℕ, Bool, List, [], ◌∷◌, Option, length, map, sym, subst, arith}
use Rattle.std.specs.List.{AllByRecursion, filter}
use Rattle.std.proofs.lemmas.List.Elements.{All-from_recursion}
use Rattle.mrt_graph.specs.steps.EndRows.{IsInRange}
use Rattle.mrt_graph.specs.EndsOfLinks.{pair_of}
use Rattle.mrt_graph.specs.GraphInvariant.{IsTopology}
use Rattle.mrt_graph.specs.Topology.{Topology}
use Rattle.mrt_graph.proofs.MadeGraph.{made_keeps}
use Rattle.mrt_graph.proofs.Members.{all_from_has, all_has, has_filter}
use Rattle.area_graph.specs.AreaInvariant.{IsArea}
use Rattle.area_graph.specs.Fits.{Fits}
use Rattle.area_graph.specs.Parts.{AreaParts}
use Rattle.area_graph.specs.Ranges.{FitsBond}
use Rattle.area_graph.specs.declared.area_types.Bond.{Bond}
use Rattle.mrt_island.specs.IslandOf.{IsIsland}
use Rattle.mrt_island.specs.Numbering.{ids_of, is_link, link_by, links_of}
use Rattle.mrt_island.specs.Policy.{Policy}
use Rattle.mrt_island.proofs.Assembling.{links_few, nodes_few}
use Rattle.mrt_island.proofs.Counting.{length_flagged}
use Rattle.mrt_island.proofs.Fitting.{island_fits}
use Rattle.mrt_island.proofs.GraphOfIsland.{graph_parts}
use Rattle.mrt_island.proofs.LinkNumbers.{are_link_numbers}

links_fit : (inside : List Bool) (bonds : List Bond) → AllByRecursion FitsBond bonds → AllByRecursion IsInRange (map (link_by inside) bonds)
links_fit inside [] fit = tt
links_fit inside (bond ∷ bonds) fit = (
  record { metric_a = fit.0.metric_a; metric_b = fit.0.metric_b; data_a = fit.0.data_a; data_b = fit.0.data_b },
  links_fit inside bonds fit.1,
)

kept_fit : (test : Bond → Bool) (bonds : List Bond) → AllByRecursion FitsBond bonds → AllByRecursion FitsBond (filter test bonds)
kept_fit test bonds fit = all_from_has FitsBond (filter test bonds) (λ bond has. all_has FitsBond bonds bond fit (has_filter test bonds bond has).0)

-- its graph is one
pub island_topology : (policy : Policy) (area : AreaParts) (router : ℕ) (graph : Topology) (root : ℕ) (link_of : List (Option ℕ)) → IsArea area
    → AllByRecursion FitsBond area.bonds → IsIsland policy area router graph root link_of → IsTopology graph
island_topology policy area router graph root link_of kept fit island =
    let ids = ids_of area island.inside in
    let links = links_of policy area island.inside in
    let few : length ids ≤ 4096 = omega (
      arith,
      length_flagged island.inside area.ids island.those.one_each,
      nodes_few area island.inside kept island.those.one_each,
    ) in
    let same : graph ≡ record { ids = ids; links = map pair_of links; ends = graph.ends } =
    λ i. record { ids = island.made.same_ids i; links = island.made.same_links i; ends = graph.ends } in
    subst IsTopology (sym same)
    (made_keeps ids links graph.ends (graph_parts policy area router island.inside kept island.those) few (links_few policy area island.inside kept)
    (All-from_recursion IsInRange links
    (links_fit island.inside (filter (is_link policy area.ids island.inside) area.bonds) (kept_fit (is_link policy area.ids island.inside) area.bonds fit)))
    island.made.end_lists)

-- and it fits the area
pub kept_fits : (policy : Policy) (area : AreaParts) (router : ℕ) (graph : Topology) (root : ℕ) (link_of : List (Option ℕ)) → IsArea area
    → IsIsland policy area router graph root link_of → Fits area graph link_of
kept_fits policy area router graph root link_of kept island =
    island_fits policy area island.inside graph link_of kept island.those.one_each island.made
    (are_link_numbers policy area island.inside link_of island.numbered)
