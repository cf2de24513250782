use Rattle.std.proofs.Common.{List}
use Rattle.mrt_graph.specs.declared.cert.Row.{Row}
use Rattle.proxy_rows.specs.steps.Steps.{IsWanted, NoneBefore}
use Rattle.proxy_rows.specs.steps.LabelledGraph.{with_rows}
use Rattle.proxy_rows.proofs.ends.first_end.Given as goal

abbrev pub invariant-loop-place : goal.invariant-loop-place
invariant-loop-place l = (rest : List Row) → NoneBefore (IsWanted l.words.graph.now (with_rows l.words rest) l.at l.fn.wanted l.fn.v) l.ends l.place
