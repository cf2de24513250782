use Rattle.std.proofs.Common.{◌≡◌, ◌≤◌, length, take}
use Rattle.std.specs.List.{filter}
use Rattle.area_graph.specs.steps.EntryOrder.{AreMarks}
use Rattle.area_graph.specs.steps.NumberedArcs.{is_arc}
use Rattle.area_graph.proofs.arcs.answered.Given as goal

abbrev pub invariant-loop-place : goal.invariant-loop-place
invariant-loop-place l = record {
  counted : l.count ≡ length (filter (is_arc l.entries) (take l.place l.entries));
  few : l.count ≤ l.place;
  kept : l.count ≤ 32768 → l.arcs.items ≡ filter (is_arc l.entries) (take l.place l.entries);
  marks : AreMarks l.entries l.place l.marks.items;
}
