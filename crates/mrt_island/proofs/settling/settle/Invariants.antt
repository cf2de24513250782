use Rattle.std.proofs.Common.{◌≡◌, length}
use Rattle.mrt_graph.specs.Search.{left_of}
use Rattle.mrt_graph.proofs.Searching.{Searches}
use Rattle.mrt_island.specs.steps.Searching.{LeadsOver}
use Rattle.mrt_island.proofs.settling.settle.Given as goal

abbrev pub invariant-loop-at : goal.invariant-loop-at
invariant-loop-at l = record {
  count : length l.search.marks ≡ length l.area.ids;
  search : Searches (LeadsOver l.area.bonds l.flags) l.fn.start l.search;
}

abbrev pub decreases-loop-at : goal.decreases-loop-at
decreases-loop-at l = left_of l.search
