use Rattle.std.proofs.Common.{◌≡◌, map, take}
use Rattle.mrt_graph.specs.InOrder.{in_order}
use Rattle.area_graph.specs.steps.NumberedArea.{bond_from, numbered as with_bond}
use Rattle.area_graph.specs.steps.NumberedArcs.{arc_cmp}
use Rattle.area_graph.specs.steps.Pairing.{bonds_upto}
use Rattle.area_graph.proofs.pairing.number_all.Given as goal

abbrev pub invariant-loop-x : goal.invariant-loop-x
invariant-loop-x l = record {
  arcs : l.all.items ≡ map (with_bond l.arcs) (take l.x-index (in_order arc_cmp l.arcs));
  bonds : l.bonds.items ≡ map (bond_from l.arcs) (bonds_upto l.arcs l.x-index);
}
