use Rattle.std.proofs.Common.{◌≡◌, length}
use Rattle.mrt_graph.specs.Search.{left_of}
use Rattle.mrt_graph.proofs.Searching.{Searches}
use Rattle.mrt_plain.specs.steps.Without.{StepsWithout}
use Rattle.mrt_plain.proofs.settling.settle.Given as goal

abbrev pub invariant-loop-at : goal.invariant-loop-at
invariant-loop-at l = record {
  count : length l.search.marks ≡ l.fn.count;
  search : Searches (StepsWithout l.links l.x) l.fn.s l.search;
}

abbrev pub decreases-loop-at : goal.decreases-loop-at
decreases-loop-at l = left_of l.search
