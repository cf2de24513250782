use Rattle.mrt_graph.specs.Search.{Enters}
use Rattle.proxy_rows.specs.steps.LabelledGraph.{without_rows}
use Rattle.proxy_rows.proofs.Stepping.{LeadsBelow}
use Rattle.proxy_rows.proofs.marking.visit.Given as goal

abbrev pub invariant-loop-place : goal.invariant-loop-place
invariant-loop-place l = Enters (LeadsBelow (without_rows l.words) l.at l.fn.side l.fn.v l.ends l.place) l.fn.search l.search
