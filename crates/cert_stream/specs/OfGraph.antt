-- Files that are certificates of graphs.
use Rattle.std.specs.Prelude.{◌<◌, ◌^◌, ℕ, length}
use Rattle.std.specs.List.{AllByRecursion}
use Rattle.mrt_graph.specs.declared.cert.CertFile.{CertFile}
use Rattle.mrt_graph.specs.declared.node_id.NodeId.{NodeId}
use Rattle.mrt_graph.specs.GraphInvariant.{IsTopology}
use Rattle.mrt_graph.specs.Topology.{Topology}
use Rattle.mrt_rows.specs.CertOf.{IsCertOf}

-- the file is the certificate of a graph and a root, and the numbers of the graph's nodes have 32 bits
pub record IsOfGraph (file : CertFile) : Type 0 where
  pub graph : Topology
  pub root : ℕ
  pub kept : IsTopology graph
  pub within : root < length graph.ids
  pub wide : AllByRecursion (λ (id : NodeId). id.number < 2 ^ 32) graph.ids
  pub certificate : IsCertOf graph root file
