use Rattle.std.proofs.Common.{◌≤◌}
use Rattle.std.specs.BinaryHeap.{heap_items, heap_len}
use Rattle.primary_alt.specs.steps.BackwardSearch.{IsRelaxed, left}
use Rattle.primary_alt.proofs.backward.relax.Given as goal

abbrev pub invariant-loop-arc : goal.invariant-loop-arc
invariant-loop-arc l = record {
  relaxed : IsRelaxed l.into.arcs.items l.row l.u l.arc-index l.distance l.initial.known.items l.known.items (heap_items l.initial.waiting) (heap_items l.waiting);
  fewer : left l.known.items (heap_len l.waiting) ≤ left l.initial.known.items (heap_len l.initial.waiting);
}
