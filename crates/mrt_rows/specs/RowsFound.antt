-- The rows of one source after another.
use Rattle.std.specs.Prelude.{ℕ, List}
use Rattle.mrt_graph.specs.declared.cert.Row.{Row}
use Rattle.mrt_graph.specs.DirectedLists.{DirectedLists}
use Rattle.mrt_rows.specs.declared.of_source.RowMaker.{RowMaker}

-- the root, the directions from it, what makes the rows, room for so many, and the rows that were found last
pub record RowsFound : Type 0 where
  pub root : ℕ
  pub directed : DirectedLists
  pub maker : RowMaker
  pub room : ℕ
  pub rows : List Row
