-- No rule reads a file's version.
use Rattle.mrt_graph.specs.declared.cert.CertFile.{CertFile}
use Rattle.mrt_graph.specs.Accepted.{Accepted}
use Rattle.mrt_graph.specs.RootAndOrders.{RootAndOrders}
use Rattle.mrt_graph.specs.Rules.{GraphRule, OrderRule, HeadRule, LinkRule, LoneRule, ClosedRule, TagRule, BlockRule}
use Rattle.mrt_graph.specs.Topology.{Topology}
use Rattle.std.proofs.Common.{ℕ}
use Rattle.mrt_answer.specs.Texts.{upgraded}

module _ (g : Topology) (root : ℕ) (file : CertFile) where
  pub upgraded_accepted : Accepted g root file → Accepted g root (upgraded file)
  upgraded_accepted accepted GraphRule = accepted GraphRule
  upgraded_accepted accepted OrderRule =
      let order : RootAndOrders g root file = accepted OrderRule in
      record { root_first = order.root_first; orders = order.orders }
  upgraded_accepted accepted HeadRule = accepted HeadRule
  upgraded_accepted accepted LinkRule = accepted LinkRule
  upgraded_accepted accepted LoneRule = accepted LoneRule
  upgraded_accepted accepted ClosedRule = accepted ClosedRule
  upgraded_accepted accepted (TagRule tag) = accepted (TagRule tag)
  upgraded_accepted accepted BlockRule = accepted BlockRule
