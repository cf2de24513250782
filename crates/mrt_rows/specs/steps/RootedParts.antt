-- What makes the columns of a graph, of its parts.
use Rattle.std.specs.Prelude.{ℕ}
use Rattle.mrt_graph.specs.DirectedLists.{DirectedLists}
use Rattle.mrt_rows.specs.declared.column.Columns.{Columns}
use Rattle.mrt_rows.specs.declared.column.Target.{Target}
use Rattle.mrt_rows.specs.RootedParts.{RootedParts}

-- what makes columns, of these parts
abbrev pub rooted_parts : ℕ → DirectedLists → Columns → Target → RootedParts
rooted_parts root directed columns to = record { root = root; directed = directed; columns = columns; to = to }
