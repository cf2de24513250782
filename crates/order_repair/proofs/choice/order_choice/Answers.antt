use Rattle.order_repair.proofs.GoesRound.{reaches_in_certificate, round_in_certificate}
use Rattle.order_repair.proofs.choice.order_choice.Goals as goal

pub returns-in-Some-clause-choice : goal.returns-in-Some-clause-choice
returns-in-Some-clause-choice c = λ root w hops between.
    let pair = rw c.in-Some.is at (c.tag_for.ensures root w hops) in
    c.color_for.ensures root w pair.0 pair.1 hops pair.2 between

pub returns-in-Some-clause-arrives : goal.returns-in-Some-clause-arrives
returns-in-Some-clause-arrives c = λ root w file hops from is between.
    reaches_in_certificate c.args.g.now root c.args.d.now w file c.node_count-count.ensures.kept
    hops.are.ordered.root_within from hops.are.says is c.args.source c.args.to c.args.failed c.color_for.result
    (returns-in-Some-clause-choice c root w hops between)

pub returns-in-Some-clause-round : goal.returns-in-Some-clause-round
returns-in-Some-clause-round c = λ root w file hops from is between.
    round_in_certificate c.args.g.now root c.args.d.now w file c.node_count-count.ensures.kept
    hops.are.ordered.root_within from hops.are.says is c.args.source c.args.to c.args.failed c.color_for.result
    (returns-in-Some-clause-choice c root w hops between)

pub returns-in-None : goal.returns-in-None
returns-in-None c = record {
  choice = λ root w hops between. absurd ((rw c.in-None.is at (c.tag_for.ensures root w hops)) between.block between.head between.share);
  arrives = λ root w file hops from is between. absurd ((rw c.in-None.is at (c.tag_for.ensures root w hops)) between.block between.head between.share);
  round = λ root w file hops from is between. absurd ((rw c.in-None.is at (c.tag_for.ensures root w hops)) between.block between.head between.share);
}
