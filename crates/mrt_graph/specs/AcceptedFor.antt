-- Certificates that are accepted, whatever the version of their file, which no rule reads.
use Rattle.std.specs.Prelude.{ℕ}
use Rattle.mrt_graph.specs.Accepted.{Accepted}
use Rattle.mrt_graph.specs.Certificate.{Certificate}
use Rattle.mrt_graph.specs.Topology.{Topology}

-- the certificate is accepted for the graph and its root, with the number that stands before it as that of its router
pub record IsAcceptedAt (g : Topology) (root : ℕ) (c : Certificate) : Type 0 where
  pub version : ℕ
  pub number : ℕ
  pub accepted : Accepted g root (record { version = version; root = number; cert = c })

-- the certificate is accepted for the graph, with its root, which is the node of order 1
pub record IsAcceptedFor (g : Topology) (c : Certificate) : Type 0 where
  pub root : ℕ
  pub version : ℕ
  pub number : ℕ
  pub accepted : Accepted g root (record { version = version; root = number; cert = c })
