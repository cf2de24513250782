-- The rows of one source after another, of their parts.
use Rattle.std.specs.Prelude.{ℕ, List}
use Rattle.mrt_graph.specs.declared.cert.Row.{Row}
use Rattle.mrt_graph.specs.DirectedLists.{DirectedLists}
use Rattle.mrt_rows.specs.declared.of_source.RowMaker.{RowMaker}
use Rattle.mrt_rows.specs.RowsFound.{RowsFound}

-- the rows of one source after another, of these parts
abbrev pub rows_found : ℕ → DirectedLists → RowMaker → ℕ → List Row → RowsFound
rows_found root directed maker room rows = record { root = root; directed = directed; maker = maker; room = room; rows = rows }
