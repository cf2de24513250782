use Rattle.std.proofs.Common.{◌≡◌, ◌∙◌, List, Bool, length, sym, ap, subst, arith}
use Rattle.std.proofs.lemmas.List.{length-map}
use Rattle.std.specs.List.Sorted.{IsStrictlySortedBy}
use Rattle.mrt_graph.specs.declared.link.LinkIn.{LinkIn}
use Rattle.mrt_graph.specs.declared.node_id.NodeId.{NodeId}
use Rattle.mrt_graph.specs.NewGraph.{AreGraphParts, IsGraphOf}
use Rattle.mrt_graph.specs.NodeOrder.{node_id_cmp}
use Rattle.mrt_island.specs.Numbering.{ids_of, is_link, links_of}
use Rattle.mrt_island.specs.steps.Rooting.{HasRouter}
use Rattle.mrt_island.specs.Rooting.{IsRoot}
use Rattle.mrt_island.proofs.Assembling.{ids_made, links_few, links_made, made_island, nodes_few, numbers_made}
use Rattle.area_graph.proofs.FewBonds.{bonds_few}
use Rattle.mrt_island.proofs.Counting.{ascend_flagged, length_flagged}
use Rattle.mrt_island.proofs.Fitting.{island_fits}
use Rattle.mrt_island.proofs.GraphOfIsland.{graph_parts, has_router}
use Rattle.mrt_island.specs.Policy.{policy_of}
use Rattle.mrt_island.proofs.island.island_of.Goals as goal

pub link_numbers-requires : goal.link_numbers-requires
link_numbers-requires c =
    let told = ap (λ (l : List Bool). length l) c.requires.extent.between ∙ length-map c.args.area.now.bonds (is_link (policy_of c.args.profile.now) c.args.area.now.ids c.args.extent.now.nodes.items) in
    let count = ap (λ (l : List Bool). length l) c.deref-4.ensures.value in
    omega (arith, told, count, bonds_few c.args.area.now c.requires.kept)

pub root-root-requires-clause-few : goal.root-root-requires-clause-few
root-root-requires-clause-few c =
    let ids : c.in_ok-ids.ids.items ≡ ids_of c.args.area.now c.args.extent.now.nodes.items =
    ids_made c.args.area.now c.args.extent.now.nodes.items c.deref.result.now c.in_ok-ids.ids.items c.in_ok-ids.ensures c.deref.ensures.value in
    let count = ap (λ (l : List NodeId). length l) (c.deref-5.ensures.value ∙ ids) ∙ length_flagged c.args.extent.now.nodes.items c.args.area.now.ids c.requires.extent.those.one_each in
    omega (arith, count, nodes_few c.args.area.now c.args.extent.now.nodes.items c.requires.kept c.requires.extent.those.one_each)

pub root-root-requires-clause-ascend : goal.root-root-requires-clause-ascend
root-root-requires-clause-ascend c =
    let ids : c.deref-5.result.now ≡ ids_of c.args.area.now c.args.extent.now.nodes.items =
    c.deref-5.ensures.value ∙ ids_made c.args.area.now c.args.extent.now.nodes.items c.deref.result.now c.in_ok-ids.ids.items c.in_ok-ids.ensures c.deref.ensures.value in
    subst (λ (l : List NodeId). IsStrictlySortedBy node_id_cmp l) (sym ids) (ascend_flagged node_id_cmp c.args.extent.now.nodes.items c.args.area.now.ids c.requires.kept.ids_ascend)

pub root-root-requires-clause-some : goal.root-root-requires-clause-some
root-root-requires-clause-some c =
    let ids : c.deref-5.result.now ≡ ids_of c.args.area.now c.args.extent.now.nodes.items =
    c.deref-5.ensures.value ∙ ids_made c.args.area.now c.args.extent.now.nodes.items c.deref.result.now c.in_ok-ids.ids.items c.in_ok-ids.ensures c.deref.ensures.value in
    subst HasRouter (sym ids) (has_router (policy_of c.args.profile.now) c.args.area.now c.requires.extent.router c.args.extent.now.nodes.items c.requires.extent.those)

pub graph-requires-clause-parts : goal.graph-requires-clause-parts
graph-requires-clause-parts c =
    let ids : c.in_ok-ids.ids.items ≡ ids_of c.args.area.now c.args.extent.now.nodes.items =
    ids_made c.args.area.now c.args.extent.now.nodes.items c.deref.result.now c.in_ok-ids.ids.items c.in_ok-ids.ensures c.deref.ensures.value in
    let links : c.in_ok-links.links.items ≡ links_of (policy_of c.args.profile.now) c.args.area.now c.args.extent.now.nodes.items =
    links_made (policy_of c.args.profile.now) c.args.area.now c.args.extent.now.nodes.items c.args.extent.now.links.items c.deref-2.result.now c.deref-3.result.now c.args.bonds.now c.in_ok-links.links.items
    c.in_ok-links.ensures c.deref-2.ensures.value c.deref-3.ensures.value c.requires.bonds c.requires.extent.between in
    subst (λ (l : List NodeId). AreGraphParts l c.in_ok-links.links.items) (sym ids)
    (subst (λ (l : List LinkIn). AreGraphParts (ids_of c.args.area.now c.args.extent.now.nodes.items) l) (sym links)
    (graph_parts (policy_of c.args.profile.now) c.args.area.now c.requires.extent.router c.args.extent.now.nodes.items c.requires.kept c.requires.extent.those))

pub returns : goal.returns
returns c =
    let policy = policy_of c.args.profile.now in
    let area = c.args.area.now in
    let nodes = c.args.extent.now.nodes.items in
    let ids = ids_made area nodes c.deref.result.now c.in_ok-ids.ids.items c.in_ok-ids.ensures c.deref.ensures.value in
    let links = links_made policy area nodes c.args.extent.now.links.items c.deref-2.result.now c.deref-3.result.now c.args.bonds.now c.in_ok-links.links.items
    c.in_ok-links.ensures c.deref-2.ensures.value c.deref-3.ensures.value c.requires.bonds c.requires.extent.between in
    let numbers = c.from_vec.ensures ∙ numbers_made policy area nodes c.args.extent.now.links.items c.deref-4.result.now c.in_ok-link_of.link_of.items
    c.in_ok-link_of.ensures c.deref-4.ensures.value c.requires.extent.between in
    record {
      island = λ router those.
          made_island policy area router nodes c.in_ok-ids.ids.items c.in_ok-links.links.items c.in_ok-graph.graph c.root-root.result c.from_vec.result
          those ids links numbers c.in_ok-graph.ensures
          (subst (λ (l : List NodeId). IsRoot policy l c.root-root.result) c.deref-5.ensures.value c.root-root.ensures);
      fits = island_fits policy area nodes c.in_ok-graph.graph c.from_vec.result c.requires.kept c.requires.extent.those.one_each
          (subst (λ (l : List NodeId). IsGraphOf l (links_of policy area nodes) c.in_ok-graph.graph) ids
          (subst (λ (l : List LinkIn). IsGraphOf c.in_ok-ids.ids.items l c.in_ok-graph.graph) links c.in_ok-graph.ensures))
          numbers;
      refused = tt;
    }

pub graph-requires-clause-nodes : goal.graph-requires-clause-nodes
graph-requires-clause-nodes c =
    let ids : c.in_ok-ids.ids.items ≡ ids_of c.args.area.now c.args.extent.now.nodes.items =
    ids_made c.args.area.now c.args.extent.now.nodes.items c.deref.result.now c.in_ok-ids.ids.items c.in_ok-ids.ensures c.deref.ensures.value in
    let count = ap (λ (l : List NodeId). length l) ids ∙ length_flagged c.args.extent.now.nodes.items c.args.area.now.ids c.requires.extent.those.one_each in
    omega (arith, count, nodes_few c.args.area.now c.args.extent.now.nodes.items c.requires.kept c.requires.extent.those.one_each)

pub graph-requires-clause-links : goal.graph-requires-clause-links
graph-requires-clause-links c =
    let links : c.in_ok-links.links.items ≡ links_of (policy_of c.args.profile.now) c.args.area.now c.args.extent.now.nodes.items =
    links_made (policy_of c.args.profile.now) c.args.area.now c.args.extent.now.nodes.items c.args.extent.now.links.items c.deref-2.result.now c.deref-3.result.now c.args.bonds.now c.in_ok-links.links.items
    c.in_ok-links.ensures c.deref-2.ensures.value c.deref-3.ensures.value c.requires.bonds c.requires.extent.between in
    let count = ap (λ (l : List LinkIn). length l) links in
    omega (arith, count, links_few (policy_of c.args.profile.now) c.args.area.now c.args.extent.now.nodes.items c.requires.kept)
