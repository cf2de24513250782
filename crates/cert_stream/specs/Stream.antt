-- A certificate that is found as it is written or compared.
use Rattle.std.specs.Prelude.{ℕ}
use Rattle.mrt_graph.specs.Topology.{Topology}

-- a graph and its root
pub record Stream : Type 0 where
  pub graph : Topology
  pub root : ℕ
