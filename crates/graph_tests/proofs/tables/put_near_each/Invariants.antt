use Rattle.mrt_rows.specs.RowMaker.{MakeRows}
use Rattle.graph_tests.proofs.tables.put_near_each.Given as goal

abbrev pub invariant-loop-n : goal.invariant-loop-n
invariant-loop-n l = MakeRows l.g l.rows
