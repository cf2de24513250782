-- When a certificate file is accepted for a graph and its root: fourteen rules, none of which follows a walk.
use Rattle.std.specs.Prelude.{ℕ}
use Rattle.mrt_graph.specs.declared.cert.CertFile.{CertFile}
use Rattle.mrt_graph.specs.Rules.{Holds, Rule}
use Rattle.mrt_graph.specs.Topology.{Topology}

-- each of the fourteen rules holds
abbrev pub Accepted : Topology → ℕ → CertFile → Type 0
Accepted g root file = (rule : Rule) → Holds g root file rule
