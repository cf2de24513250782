-- The fourteen rules, each by its number: when it holds, and where it fails.
use Rattle.std.specs.Prelude.{◌≡◌, ◌+◌, ℕ, length}
use Rattle.mrt_graph.specs.declared.cert.CertFile.{CertFile}
use Rattle.mrt_graph.specs.declared.cert.Tag.{Tag}
use Rattle.mrt_graph.specs.HeadsAndBlocks.{HeadsHold, HeadFault, link_placed, lone_block, closed_block}
use Rattle.mrt_graph.specs.Places.{Each, IsFirst, EachPair, EachTwo, IsFirstPair, IsFirstTwo}
use Rattle.mrt_graph.specs.RootAndOrders.{RootAndOrders, OrderFault}
use Rattle.mrt_graph.specs.RowRules.{rows_in_block}
use Rattle.mrt_graph.specs.RowsByTag.{KeepsTag}
use Rattle.mrt_graph.specs.SameGraph.{SameGraph, GraphFault}
use Rattle.mrt_graph.specs.Tags.{tag_number}
use Rattle.mrt_graph.specs.Topology.{Topology}

-- the rules on the graph, on the orders, on heads, on the blocks of links, on blocks with one link, and on others; for
-- each tag one on the rows that have it; and one on the blocks of the links of rows
pub data Rule : Type 0 where
  GraphRule : Rule
  OrderRule : Rule
  HeadRule : Rule
  LinkRule : Rule
  LoneRule : Rule
  ClosedRule : Rule
  TagRule : Tag → Rule
  BlockRule : Rule

-- their numbers: those of the tags are 7 to 13
abbrev pub rule_number : Rule → ℕ
rule_number GraphRule = 1
rule_number OrderRule = 2
rule_number HeadRule = 3
rule_number LinkRule = 4
rule_number LoneRule = 5
rule_number ClosedRule = 6
rule_number (TagRule tag) = 7 + tag_number tag
rule_number BlockRule = 14

-- when each rule holds, of a file, for a graph and its root
abbrev pub Holds : Topology → ℕ → CertFile → Rule → Type 0
Holds g root file GraphRule = SameGraph g file.cert
Holds g root file OrderRule = RootAndOrders g root file
Holds g root file HeadRule = HeadsHold file.cert root
Holds g root file LinkRule = Each (link_placed file.cert) (length file.cert.links)
Holds g root file LoneRule = Each (lone_block file.cert root) (length file.cert.nodes)
Holds g root file ClosedRule = Each (closed_block file.cert root) (length file.cert.nodes)
Holds g root file (TagRule tag) = EachTwo (KeepsTag tag g.links file.cert root) (length file.cert.nodes)
Holds g root file BlockRule = EachPair (rows_in_block file.cert) (length file.cert.nodes)

-- where each fails: a rule on each of some numbers at the least one, and 0; a rule on each two of them at the least first one, and the
-- least second one beside it
abbrev pub FailsAt : Topology → ℕ → CertFile → Rule → ℕ → ℕ → Type 0
FailsAt g root file GraphRule a b = GraphFault g file.cert a b
FailsAt g root file OrderRule a b = OrderFault g root file a b
FailsAt g root file HeadRule a b = HeadFault file.cert root a b
FailsAt g root file LinkRule a b = IsFirst (link_placed file.cert) (length file.cert.links) a × (b ≡ 0)
FailsAt g root file LoneRule a b = IsFirst (lone_block file.cert root) (length file.cert.nodes) a × (b ≡ 0)
FailsAt g root file ClosedRule a b = IsFirst (closed_block file.cert root) (length file.cert.nodes) a × (b ≡ 0)
FailsAt g root file (TagRule tag) a b = IsFirstTwo (KeepsTag tag g.links file.cert root) (length file.cert.nodes) a b
FailsAt g root file BlockRule a b = IsFirstPair (rows_in_block file.cert) (length file.cert.nodes) a b
