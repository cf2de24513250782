use Rattle.std.proofs.Common.{◌≡◌, length, take}
use Rattle.primary_alt.specs.steps.FirstArcs.{AreColumnsFor}
use Rattle.primary_alt.proofs.first_arcs.columns_by.Given as goal

abbrev pub invariant-loop-t : goal.invariant-loop-t
invariant-loop-t l = record {
  known : length l.known.items ≡ length l.area.ids;
  columns : AreColumnsFor l.area (take l.t-index l.destinations) l.columns.items;
}
