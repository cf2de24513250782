use Rattle.std.proofs.Common.{◌≡◌, ◌∷◌, [], ◌∙◌, ℕ, List, Some, length, slice_get, sym, ap, subst, arith}
use Rattle.std.proofs.lemmas.List.{length-append}
use Rattle.mrt_graph.specs.declared.node_id.NodeId.{NodeId}
use Rattle.mrt_graph.proofs.ListPlaces.{contains_at}
use Rattle.primary_alt.proofs.IslandNumbers.{spot_more}
use Rattle.primary_alt.proofs.in_island.area_nodes.Goals as goal

pub spot_of-requires : goal.spot_of-requires
spot_of-requires c = c.requires c.id.result (contains_at c.args.g.now.ids _ c.id.result c.id.ensures)

pub loop-n-preserved : goal.loop-n-preserved
loop-n-preserved c =
    let ids = c.args.area.now.ids in
    let island = c.args.g.now.ids in
    let at : slice_get island c.loop-n.n ≡ Some c.id.result = subst (λ (n : ℕ). slice_get island n ≡ Some c.id.result) c.new.ensures c.id.ensures in
    record {
      count = c.loop-n.invariant.count;
      many = omega (arith, c.push_reserved.ensures.len, c.loop-n.invariant.many);
      held = ap length c.push_reserved.ensures.items ∙ length-append c.loop-n.spots.items (c.spot_of.result ∷ []) ∙ omega (arith, c.loop-n.invariant.held);
      room = omega (arith, c.push_reserved.ensures.capacity, c.loop-n.invariant.room);
      so_far = subst (λ (xs : List ℕ). (k s : ℕ) (id : NodeId) → slice_get island k ≡ Some id → slice_get xs k ≡ Some s → slice_get ids s ≡ Some id) (sym c.push_reserved.ensures.items)
          (spot_more ids island c.loop-n.spots.items c.loop-n.n c.id.result c.spot_of.result c.loop-n.invariant.held at c.spot_of.ensures c.loop-n.invariant.so_far);
    }
