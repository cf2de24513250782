use Rattle.block_spf.specs.declared.reach.Dir.TheVariants.{Up}
use Rattle.order_repair.proofs.HopsTell.{order_said}
use Rattle.order_repair.proofs.order_tests.node_tests.Goals as goal

pub returns : goal.returns
returns c = λ root w hops.
    let g = c.args.view.now.graph.now in
    let d = c.args.view.now.directed.now in
    record {
      numbers = record {
        source = order_said g d w c.args.pair.now.source c.order.result hops.are.says c.requires.source.within c.order.ensures;
        to = order_said g d w c.args.pair.now.to c.order-2.result hops.are.says c.requires.to c.order-2.ensures;
        from = order_said g d w c.args.failed c.order-at.result hops.are.says c.requires.failed c.order-at.ensures;
        onto = order_said g d w c.args.failed c.order-at.result hops.are.says c.requires.failed c.order-at.ensures;
      };
      under = c.is_under_node.ensures root w hops;
      over = c.is_reached.ensures w Up c.args.pair.now.source hops.goes_up;
    }
