use Rattle.mrt_rows.specs.Rooted.{MakeColumns}
use Rattle.graph_tests.proofs.tables.put_each_column.Given as goal

abbrev pub invariant-loop-n : goal.invariant-loop-n
invariant-loop-n l = MakeColumns l.g l.columns
