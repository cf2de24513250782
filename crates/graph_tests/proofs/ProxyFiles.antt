-- An accepted file holds an accepted certificate.
use Rattle.std.proofs.Common.{ℕ}
use Rattle.mrt_graph.specs.declared.cert.CertFile.{CertFile}
use Rattle.mrt_graph.specs.Accepted.{Accepted}
use Rattle.mrt_graph.specs.AcceptedFor.{IsAcceptedFor}
use Rattle.mrt_graph.specs.Topology.{Topology}

pub accepted_for : (g : Topology) (root : ℕ) (file : CertFile) → Accepted g root file → IsAcceptedFor g file.cert
accepted_for g root file accepted = record { root = root; version = file.version; number = file.root; accepted = accepted }
