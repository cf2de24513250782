-- The rows of one node of a certificate, of which all rows are held or those of related nodes.
use Rattle.std.specs.Prelude.{ℕ}
use Rattle.mrt_graph.specs.Certificate.{Certificate}

-- a certificate and one of its nodes
pub record RowsOfNode : Type 0 where
  pub cert : Certificate
  pub node : ℕ
