-- What makes the columns of a graph.
use Rattle.std.specs.Prelude.{ℕ}
use Rattle.mrt_graph.specs.DirectedLists.{DirectedLists}
use Rattle.mrt_rows.specs.declared.column.Columns.{Columns}
use Rattle.mrt_rows.specs.declared.column.Target.{Target}

-- a root, the directions from it, what columns are made of, and the destination that these are aimed at
pub record RootedParts : Type 0 where
  pub root : ℕ
  pub directed : DirectedLists
  pub columns : Columns
  pub to : Target
