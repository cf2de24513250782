use Rattle.std.proofs.Common.{◌≡◌, ◌<◌, ◌+◌, ◌∙◌, ℕ, List, Some, get_or, length, set, slice_get, refl, sym, subst, arith}
use Rattle.std.proofs.lemmas.List.{length-set}
use Rattle.std.proofs.lemmas.Option.{slice_get_read, slice_get_within}
use Rattle.mrt_graph.specs.declared.node_id.NodeId.{NodeId}
use Rattle.mrt_graph.proofs.ListTests.{there}
use Rattle.primary_alt.specs.RoutesMade.{AreAreaNodes}
use Rattle.primary_alt.proofs.IslandNumbers.{AreNodesTo, nodes_all, nodes_more}
use Rattle.primary_alt.proofs.in_island.island_nodes.Goals as goal

-- the node of the area that was read
spot_read : (ids island : List NodeId) (spots : List ℕ) (n spot at : ℕ) → AreAreaNodes ids island spots → n < length island → spot ≡ get_or spots n spot → at ≡ spot
    → slice_get spots n ≡ Some at
spot_read ids island spots n spot at are within read same =
    subst (λ (s : ℕ). slice_get spots n ≡ Some s) (sym same) (slice_get_read spots (length spots) n spot refl (omega (arith, are.one_each, within)) read)

spot_within : (ids island : List NodeId) (spots : List ℕ) (n at : ℕ) → AreAreaNodes ids island spots → n < length island → slice_get spots n ≡ Some at → at < length ids
spot_within ids island spots n at are within is = let id = there island n within in slice_get_within ids at id.0 (are.same n at id.0 id.1 is)

pub index_mut-requires : goal.index_mut-requires
index_mut-requires c =
    let ids = c.args.area.now.ids in
    let island = c.args.g.now.ids in
    let low : c.loop-n.n < length island = omega (arith, c.loop-n-test.true, c.node_count-n-end.ensures.count) in
    let is = spot_read ids island c.args.spots.now c.loop-n.n c.index-spots-n.result c.get.result c.requires low c.index-spots-n.is c.get.ensures.value in
    omega (arith, spot_within ids island c.args.spots.now c.loop-n.n c.get.result c.requires low is, c.loop-n.invariant.many, c.loop-n.nodes.ok.0)

pub loop-n-preserved : goal.loop-n-preserved
loop-n-preserved c =
    let ids = c.args.area.now.ids in
    let island = c.args.g.now.ids in
    let low : c.loop-n.n < length island = omega (arith, c.loop-n-test.true, c.node_count-n-end.ensures.count) in
    let is = spot_read ids island c.args.spots.now c.loop-n.n c.index-spots-n.result c.get.result c.requires low c.index-spots-n.is c.get.ensures.value in
    record {
      many = length-set c.loop-n.nodes.items c.get.result (Some c.new.result) ∙ c.loop-n.invariant.many;
      told = subst (λ (n : ℕ). AreNodesTo c.args.spots.now (set c.loop-n.nodes.items c.get.result (Some n)) (c.loop-n.n + 1)) (sym c.new.ensures)
          (nodes_more c.args.spots.now c.loop-n.nodes.items c.loop-n.n c.get.result is
          (omega (arith, spot_within ids island c.args.spots.now c.loop-n.n c.get.result c.requires low is, c.loop-n.invariant.many)) c.loop-n.invariant.told);
    }

pub returns : goal.returns
returns c =
    let island = c.args.g.now.ids in
    let all : c.loop-n.n ≡ length island = omega (arith, c.loop-n-test.false, c.loop-n.auto.n-end, c.node_count-n-end.ensures.count) in
    nodes_all c.args.area.now.ids island c.args.spots.now c.loop-n.nodes.items c.count.ensures.kept.ids_ascend c.requires c.loop-n.invariant.many
    (subst (λ (n : ℕ). AreNodesTo c.args.spots.now c.loop-n.nodes.items n) all c.loop-n.invariant.told)
