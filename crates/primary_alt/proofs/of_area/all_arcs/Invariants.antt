use Rattle.std.proofs.Common.{◌≡◌, length, take}
use Rattle.area_graph.specs.steps.Starts.{below}
use Rattle.primary_alt.proofs.of_area.all_arcs.Given as goal

abbrev pub invariant-loop-s : goal.invariant-loop-s
invariant-loop-s l = record {
  count : l.count ≡ length l.area.ids;
  filled : l.arcs.items ≡ take (below l.s l.area.arcs) l.area.arcs;
}
