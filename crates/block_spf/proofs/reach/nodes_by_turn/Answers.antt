use Rattle.std.proofs.Common.{◌≡◌, ◌<◌, ◌≤◌, ◌+◌, ◌∙◌, ℕ, List, Some, length, length-set, set, slice_get, inl, inr, sym, ap, subst, arith}
use Rattle.std.proofs.lemmas.Bool.{cases_eq}
use Rattle.std.proofs.lemmas.Option.{same_Some}
use Rattle.mrt_graph.specs.DirectedLists.{DirectedLists}
use Rattle.mrt_graph.specs.Topology.{Topology}
use Rattle.mrt_graph.proofs.ListPlaces.{set_elsewhere, set_there}
use Rattle.link_direction.specs.Directions.{Directions}
use Rattle.block_spf.specs.declared.reach.Dir.{Dir}
use Rattle.block_spf.specs.declared.reach.Dir.TheVariants.{Down, Up}
use Rattle.block_spf.specs.HasDirections.{AreDirections}
use Rattle.block_spf.specs.Turns.{turn_at, turn_of}
use Rattle.block_spf.proofs.ByTurn.{AreSet, all_set, turn_in}
use Rattle.block_spf.proofs.reach.nodes_by_turn.Goals as goal

-- nodes of one turn have one order
same_order : (dir : Dir) (n a b : ℕ) → 1 ≤ a → a ≤ n → 1 ≤ b → b ≤ n → turn_at dir n a ≡ turn_at dir n b → a ≡ b
same_order Up n a b a_low a_high b_low b_high same = omega (arith, a_low, b_low, same)
same_order Down n a b a_low a_high b_low b_high same = omega (arith, a_high, b_high, same)

module _ (g : Topology) (d : DirectedLists) (root : ℕ) (w : Directions) (dir : Dir) (are : AreDirections g d root w) (v order count : ℕ) (within : v < length g.ids)
    (at : slice_get d.orders v ≡ Some order) (count_is : count ≡ length g.ids) where
  order_is : order ≡ w.order v
  order_is = same_Some order (w.order v) (sym at ∙ are.says.orders v within)

  turn_is : turn_at dir count order ≡ turn_of dir (length g.ids) w v
  turn_is = ap (λ (k : ℕ). turn_at dir count k) order_is ∙ ap (λ (n : ℕ). turn_at dir n (w.order v)) count_is

  order_low : 1 ≤ order
  order_low = omega (arith, order_is, are.ordered.orders.from_one v within)

  order_high : order ≤ count
  order_high = omega (arith, order_is, count_is, are.ordered.orders.to_n v within)

  turn_inside : (turn : ℕ) (turns : List ℕ) → turn ≡ turn_at dir count order → length turns ≡ length g.ids → turn < length turns
  turn_inside turn turns same one_each = omega (arith, same, turn_is, one_each, turn_in g root w dir v are.ordered within)

  -- one more stands at its turn
  one_set : (n turn : ℕ) (turns : List ℕ) → v ≡ n → turn ≡ turn_at dir count order → AreSet g w dir n turns → AreSet g w dir (n + 1) (set turns turn v)
  one_set n turn turns is same so_far = record {
    one_each = length-set turns turn v ∙ so_far.one_each;
    of_each = λ u below. elim (cases_eq u v) [
      | inl one ↦
          subst (λ (x : ℕ). slice_get (set turns turn v) (turn_of dir (length g.ids) w x) ≡ Some x) (sym one)
          (subst (λ (i : ℕ). slice_get (set turns turn v) i ≡ Some v) (same ∙ turn_is) (set_there turns turn v (turn_inside turn turns same so_far.one_each)))
      | inr other ↦
          let early : u < n = omega (arith, below, other, is) in
          set_elsewhere turns turn (turn_of dir (length g.ids) w u) v (λ here. other (apart u (omega (arith, early, is, within)) (here ∙ same ∙ turn_is)))
          ∙ so_far.of_each u early
    ];
  }
    where
      apart : (u : ℕ) → u < length g.ids → turn_of dir (length g.ids) w u ≡ turn_of dir (length g.ids) w v → u ≡ v
      apart u u_within one =
          let orders = are.ordered.orders in
          orders.differ u v u_within within (same_order dir (length g.ids) (w.order u) (w.order v) (orders.from_one u u_within) (orders.to_n u u_within)
          (orders.from_one v within) (orders.to_n v within) one)

pub loop-n-init : goal.loop-n-init
loop-n-init c =
    let one_each = sym c.in_ok-turns.turns.ok.0 ∙ c.in_ok-turns.ensures.len ∙ c.node_count-count.ensures.count in
    record {
      one_each = one_each;
      nodes = c.node_count-count.ensures.count;
      first = λ root w are. record { one_each = one_each; of_each = λ v below. absurd (omega (arith, below)) };
    }

pub order-requires : goal.order-requires
order-requires c =
    omega (arith, c.new-node.ensures, c.loop-n-test.true, c.node_count-count.ensures.count, c.requires.are.says.one_order_each)

pub turn-requires-clause-low : goal.turn-requires-clause-low
turn-requires-clause-low c =
    let has = c.requires in
    order_low c.args.g.now c.args.d.now has.root has.directions c.args.dir has.are c.new-node.result c.order.result c.node_count-count.result
    (omega (arith, c.new-node.ensures, c.loop-n-test.true, c.node_count-count.ensures.count)) c.order.ensures c.node_count-count.ensures.count

pub turn-requires-clause-high : goal.turn-requires-clause-high
turn-requires-clause-high c =
    let has = c.requires in
    order_high c.args.g.now c.args.d.now has.root has.directions c.args.dir has.are c.new-node.result c.order.result c.node_count-count.result
    (omega (arith, c.new-node.ensures, c.loop-n-test.true, c.node_count-count.ensures.count)) c.order.ensures c.node_count-count.ensures.count

pub index_mut-requires : goal.index_mut-requires
index_mut-requires c =
    let has = c.requires in
    subst (λ (m : ℕ). c.turn.result < m) (sym c.loop-n.turns.ok.0)
    (turn_inside c.args.g.now c.args.d.now has.root has.directions c.args.dir has.are c.new-node.result c.order.result c.node_count-count.result
    (omega (arith, c.new-node.ensures, c.loop-n-test.true, c.node_count-count.ensures.count)) c.order.ensures c.node_count-count.ensures.count
    c.turn.result c.loop-n.turns.items c.turn.ensures c.loop-n.invariant.one_each)

pub loop-n-preserved : goal.loop-n-preserved
loop-n-preserved c = record {
  one_each = length-set c.loop-n.turns.items c.turn.result c.new-node.result ∙ c.loop-n.invariant.one_each;
  nodes = c.loop-n.invariant.nodes;
  first = λ root w are.
      one_set c.args.g.now c.args.d.now root w c.args.dir are c.new-node.result c.order.result c.node_count-count.result
      (omega (arith, c.new-node.ensures, c.loop-n-test.true, c.node_count-count.ensures.count)) c.order.ensures c.node_count-count.ensures.count
      c.loop-n.n c.turn.result c.loop-n.turns.items c.new-node.ensures c.turn.ensures (c.loop-n.invariant.first root w are);
}

pub returns : goal.returns
returns c = λ root w are.
    all_set c.args.g.now c.args.d.now root w c.args.dir c.loop-n.n c.loop-n.turns.items are (omega (arith, c.loop-n-test.false, c.loop-n.invariant.nodes))
    (c.loop-n.invariant.first root w are)
