use Rattle.mrt_graph.specs.SameGraph.{OtherCounts, OtherNode, OtherLink}
use Rattle.cert_checker.proofs.same_graph.graph_fault.Goals as goal

pub returns-then-not-counts_agree : goal.returns-then-not-counts_agree
returns-then-not-counts_agree c = OtherCounts c.if-not-counts_agree.ensures

pub returns-in-Some : goal.returns-in-Some
returns-in-Some c = OtherNode _ c.if-not-counts_agree.ensures c.in-Some.ensures

pub returns-in-Some-first_other_link : goal.returns-in-Some-first_other_link
returns-in-Some-first_other_link c =
    OtherLink _ c.if-not-counts_agree.ensures c.in_default.ensures c.in-Some-first_other_link.ensures
