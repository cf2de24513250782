-- A graph can be made of an island's nodes and links.
use Rattle.std.proofs.Common.{◌≡◌, ℕ, Bool, List, [], length, map, refl, sym, subst, arith}
use Rattle.std.proofs.lemmas.Option.{slice_get_within}
use Rattle.mrt_graph.specs.Connected.{IsConnected}
use Rattle.mrt_graph.specs.EndsOfLinks.{pair_of}
use Rattle.mrt_graph.specs.NewGraph.{AreGraphParts}
use Rattle.mrt_graph.specs.NodeOrder.{node_id_cmp}
use Rattle.mrt_graph.specs.Search.{IsMarked}
use Rattle.area_graph.specs.AreaInvariant.{IsArea}
use Rattle.mrt_graph.specs.NodeIds.{router as router_node}
use Rattle.area_graph.specs.Parts.{AreaParts}
use Rattle.mrt_island.specs.Policy.{Policy}
use Rattle.mrt_island.specs.Members.{IsInside}
use Rattle.mrt_island.specs.Numbering.{flags_set, ids_of, links_of, number_inside}
use Rattle.mrt_island.specs.steps.Rooting.{HasRouter}
use Rattle.mrt_island.proofs.Counting.{ascend_flagged, flagged_at, length_flagged}
use Rattle.mrt_island.proofs.Joined.{all_joined}
use Rattle.mrt_island.proofs.LinkParts.{links_ascend, links_between}

-- the router is inside itself
pub start_inside : (policy : Policy) (area : AreaParts) (router : ℕ) (inside : List Bool) (those : IsInside policy area router inside) → IsMarked inside those.start
start_inside policy area router inside those = (those.those those.start).1 ([], refl)

pub has_router : (policy : Policy) (area : AreaParts) (router : ℕ) (inside : List Bool) → IsInside policy area router inside → HasRouter (ids_of area inside)
has_router policy area router inside those = record {
  place = number_inside inside those.start;
  id = router_node router;
  there = flagged_at inside area.ids those.start (router_node router) those.there (start_inside policy area router inside those);
  router = refl;
}

pub graph_parts : (policy : Policy) (area : AreaParts) (router : ℕ) (inside : List Bool) → IsArea area → IsInside policy area router inside → AreGraphParts (ids_of area inside) (links_of policy area inside)
graph_parts policy area router inside kept those =
    let router_there : HasRouter (ids_of area inside) = has_router policy area router inside those in
    let count : length (ids_of area inside) ≡ flags_set inside = length_flagged inside area.ids those.one_each in
    record {
      some_node = omega (arith, slice_get_within (ids_of area inside) router_there.place router_there.id router_there.there);
      ids_ascend = ascend_flagged node_id_cmp inside area.ids kept.ids_ascend;
      links_between = links_between policy area.ids inside area.bonds those.one_each kept.bonds_kept;
      links_ascend = links_ascend policy area.ids inside area.bonds kept.pairs_ascend;
      connected = subst (λ (n : ℕ). IsConnected n (map pair_of (links_of policy area inside))) (sym count) (all_joined policy area router inside those kept);
    }
