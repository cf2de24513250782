use Rattle.order_repair.proofs.HopsTell.{order_said}
use Rattle.order_repair.proofs.order_tests.link_tests.Goals as goal

pub returns : goal.returns
returns c = λ root w hops.
    let g = c.args.view.now.graph.now in
    let d = c.args.view.now.directed.now in
    record {
      numbers = record {
        source = order_said g d w c.args.pair.now.source c.order.result hops.are.says c.requires.source.within c.order.ensures;
        to = order_said g d w c.args.pair.now.to c.order-2.result hops.are.says c.requires.to c.order-2.ensures;
        from = order_said g d w c.args.failed.from c.order-3.result hops.are.says c.requires.from c.order-3.ensures;
        onto = order_said g d w c.args.failed.to c.order-4.result hops.are.says c.requires.onto c.order-4.ensures;
      };
      under = c.is_under_link.ensures root w hops;
      over = c.is_over_link.ensures root w hops;
    }
