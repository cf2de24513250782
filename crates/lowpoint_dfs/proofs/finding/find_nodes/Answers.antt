use Rattle.std.proofs.Common.{length, refl, ap, arith, None}
use Rattle.lowpoint_dfs.proofs.SearchGoesOn.{begun}
use Rattle.lowpoint_dfs.proofs.finding.find_nodes.Goals as goal

pub loop-next-init : goal.loop-next-init
loop-next-init c =
    let nodes = c.in_ok-nodes.ensures.items_if_clones_equal (λ y same. same) in
    let passed = c.in_ok-passed.ensures.items_if_clones_equal (λ y same. same) in
    let order = rw c.in_ok-order.ensures.items at c.find.ensures.order in
    let found = rw c.in_ok-order.ensures.items at c.find.ensures.nodes in
    record {
      searching = begun c.args.g.now c.args.root _ c.in_ok-nodes.nodes.items c.find.new.nodes.items c.find.new.order.items c.in_ok-passed.passed.items c.node_count-count.result None
          c.requires refl c.node_count-count.ensures.count nodes found refl order passed;
      room = omega (arith, c.find.ensures.room, c.in_ok-order.ensures.capacity, c.node_count-count.ensures.count);
    }

pub find-requires : goal.find-requires
find-requires c = record {
  within = omega (arith, c.requires, c.node_count-count.ensures.count, c.in_ok-nodes.ensures.len, c.in_ok-nodes.nodes.ok.0);
  small = omega (arith, ap length c.in_ok-order.ensures.items);
  room = omega (arith, ap length c.in_ok-order.ensures.items, c.in_ok-order.ensures.capacity, c.requires, c.node_count-count.ensures.count);
}

pub step-requires : goal.step-requires
step-requires c = record {
  kept = c.node_count-count.ensures.kept;
  root = c.requires;
  searching = c.loop-next.invariant.searching;
  room = c.loop-next.invariant.room;
}

pub loop-next-preserved : goal.loop-next-preserved
loop-next-preserved c = record { searching = c.in-Some.ensures.onward; room = c.step.ensures.room }

pub loop-next-smaller : goal.loop-next-smaller
loop-next-smaller c = c.in-Some.ensures.left
