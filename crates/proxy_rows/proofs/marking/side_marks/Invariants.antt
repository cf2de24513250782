use Rattle.std.proofs.Common.{◌≡◌, length}
use Rattle.mrt_graph.specs.Search.{left_of}
use Rattle.mrt_graph.proofs.Searching.{Searches}
use Rattle.proxy_rows.specs.Sides.{router_of}
use Rattle.proxy_rows.specs.steps.Steps.{StepsTo}
use Rattle.proxy_rows.specs.steps.LabelledGraph.{without_rows}
use Rattle.proxy_rows.proofs.marking.side_marks.Given as goal

abbrev pub invariant-loop-v : goal.invariant-loop-v
invariant-loop-v l = record {
  count : length l.search.marks ≡ length l.words.graph.now.ids;
  search : Searches (StepsTo l.words.graph.now (without_rows l.words) l.at l.fn.side) (router_of l.at l.fn.side) l.search;
}

abbrev pub decreases-loop-v : goal.decreases-loop-v
decreases-loop-v l = left_of l.search
