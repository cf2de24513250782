-- The first of the fourteen rules that fails, and its least place.
use Rattle.std.specs.Prelude.{◌≡◌, ◌<◌, ℕ}
use Rattle.mrt_graph.specs.declared.cert.CertFile.{CertFile}
use Rattle.mrt_graph.specs.Rules.{FailsAt, Holds, Rule, rule_number}
use Rattle.mrt_graph.specs.Topology.{Topology}

-- the rule of that number fails at a and b, and each earlier rule holds
pub record FirstFault (g : Topology) (root : ℕ) (file : CertFile) (number a b : ℕ) : Type 0 where
  pub rule : Rule
  pub numbered : rule_number rule ≡ number
  pub fails : FailsAt g root file rule a b
  pub earlier : (other : Rule) → rule_number other < number → Holds g root file other
