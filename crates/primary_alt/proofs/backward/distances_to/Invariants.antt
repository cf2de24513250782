use Rattle.std.proofs.Common.{◌≡◌, length}
use Rattle.std.specs.BinaryHeap.{heap_items, heap_len}
use Rattle.primary_alt.specs.steps.BackwardSearch.{AreSmall, IsSearching, left}
use Rattle.primary_alt.proofs.backward.distances_to.Given as goal

abbrev pub invariant-loop-nearest : goal.invariant-loop-nearest
invariant-loop-nearest l = record {
  one_each : length l.known.items ≡ length l.fn.known.items;
  small : AreSmall l.known.items;
  searching : IsSearching l.into.arcs.items l.fn.t l.known.items (heap_items l.waiting);
}

abbrev pub decreases-loop-nearest : goal.decreases-loop-nearest
decreases-loop-nearest l = left l.known.items (heap_len l.waiting)
