use Rattle.std.proofs.Common.{◌≡◌, map, take}
use Rattle.area_graph.specs.steps.NumberedArea.{bond_from}
use Rattle.area_graph.specs.steps.EntryOrder.{AreMarks, IsUpto}
use Rattle.area_graph.specs.steps.Pairing.{pairs_upto, with_pair}
use Rattle.area_graph.proofs.pairing.number_pairs.Given as goal

abbrev pub invariant-loop-place : goal.invariant-loop-place
invariant-loop-place l = record {
  numbered : l.numbered.items ≡ map (with_pair l.arcs) (take l.place l.arcs);
  own : IsUpto l.arcs l.place l.own;
  marks : AreMarks l.arcs l.place l.marks.items;
  pairs : l.bonds.items ≡ map (bond_from l.arcs) (pairs_upto l.arcs l.place);
}
