use Rattle.std.proofs.Common.{ℕ, refl}
use Rattle.cert_checker.proofs.Verdicts.{all_hold, row_fails}
use Rattle.mrt_graph.specs.declared.cert.CertFile.{CertFile}
use Rattle.mrt_graph.specs.Rules.{GraphRule, OrderRule, HeadRule, LinkRule, LoneRule, ClosedRule, Holds}
use Rattle.mrt_graph.specs.Topology.{Topology}
use Rattle.mrt_graph.proofs.RuleFaults.{HoldBefore, hold_none, hold_more}
use Rattle.cert_checker.proofs.judge.judge.Goals as goal

module _ (g : Topology) (root : ℕ) (file : CertFile) (graph : Holds g root file GraphRule) where
  one : HoldBefore g root file 2
  one = hold_more g root file GraphRule (hold_none g root file) graph

  module _ (orders : Holds g root file OrderRule) where
    two : HoldBefore g root file 3
    two = hold_more g root file OrderRule one orders

    module _ (heads : Holds g root file HeadRule) where
      three : HoldBefore g root file 4
      three = hold_more g root file HeadRule two heads

      module _ (links : Holds g root file LinkRule) where
        four : HoldBefore g root file 5
        four = hold_more g root file LinkRule three links

        module _ (lone : Holds g root file LoneRule) where
          five : HoldBefore g root file 6
          five = hold_more g root file LoneRule four lone

          six : Holds g root file ClosedRule → HoldBefore g root file 7
          six closed = hold_more g root file ClosedRule five closed

pub returns-in-Some : goal.returns-in-Some
returns-in-Some c = record {
  rule = GraphRule;
  numbered = refl;
  fails = c.in-Some.ensures;
  earlier = hold_none c.args.g.now c.args.root c.args.f.now;
}

pub returns-in-Some-order_fault : goal.returns-in-Some-order_fault
returns-in-Some-order_fault c = record {
  rule = OrderRule;
  numbered = refl;
  fails = c.in-Some-order_fault.ensures;
  earlier = one c.args.g.now c.args.root c.args.f.now c.in_default.ensures;
}

pub returns-in-Some-head_fault : goal.returns-in-Some-head_fault
returns-in-Some-head_fault c = record {
  rule = HeadRule;
  numbered = refl;
  fails = c.in-Some-head_fault.ensures;
  earlier = two c.args.g.now c.args.root c.args.f.now c.in_default.ensures c.in_default-order_fault.ensures;
}

pub returns-in-Some-first_misplaced_link : goal.returns-in-Some-first_misplaced_link
returns-in-Some-first_misplaced_link c = record {
  rule = LinkRule;
  numbered = refl;
  fails = (c.in-Some-first_misplaced_link.ensures, refl);
  earlier = three c.args.g.now c.args.root c.args.f.now c.in_default.ensures c.in_default-order_fault.ensures
      c.in_default-head_fault.ensures;
}

pub returns-in-Some-first_lone_fault : goal.returns-in-Some-first_lone_fault
returns-in-Some-first_lone_fault c = record {
  rule = LoneRule;
  numbered = refl;
  fails = (c.in-Some-first_lone_fault.ensures, refl);
  earlier = four c.args.g.now c.args.root c.args.f.now c.in_default.ensures c.in_default-order_fault.ensures
      c.in_default-head_fault.ensures c.in_default-first_misplaced_link.ensures;
}

pub returns-in-Some-first_closed_fault : goal.returns-in-Some-first_closed_fault
returns-in-Some-first_closed_fault c = record {
  rule = ClosedRule;
  numbered = refl;
  fails = (c.in-Some-first_closed_fault.ensures, refl);
  earlier = five c.args.g.now c.args.root c.args.f.now c.in_default.ensures c.in_default-order_fault.ensures
      c.in_default-head_fault.ensures c.in_default-first_misplaced_link.ensures c.in_default-first_lone_fault.ensures;
}

pub returns-in-None : goal.returns-in-None
returns-in-None c =
    all_hold c.args.g.now c.args.root c.args.f.now
    (six c.args.g.now c.args.root c.args.f.now c.in_default.ensures c.in_default-order_fault.ensures
    c.in_default-head_fault.ensures c.in_default-first_misplaced_link.ensures c.in_default-first_lone_fault.ensures
    c.in_default-first_closed_fault.ensures) c.in-None.ensures

pub returns-in-Some-first_row_fault : goal.returns-in-Some-first_row_fault
returns-in-Some-first_row_fault c =
    row_fails c.args.g.now c.args.root c.args.f.now
    (six c.args.g.now c.args.root c.args.f.now c.in_default.ensures c.in_default-order_fault.ensures
    c.in_default-head_fault.ensures c.in_default-first_misplaced_link.ensures c.in_default-first_lone_fault.ensures
    c.in_default-first_closed_fault.ensures) c.in-Some-first_row_fault.fault c.in-Some-first_row_fault.ensures
