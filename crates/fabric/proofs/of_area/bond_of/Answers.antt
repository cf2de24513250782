use Rattle.std.proofs.Common.{◌≡◌, arith, ap, length}
use Rattle.area_graph.proofs.FewBonds.{bonds_few}
use Rattle.fabric.proofs.of_area.bond_of.Goals as goal

pub overflow_cast-bonds : goal.overflow_cast-bonds
overflow_cast-bonds c =
    let same : length c.bonds.result.now ≡ length c.args.area.now.bonds = ap length c.bonds.ensures.value in
    omega (arith, same, bonds_few c.args.area.now c.bonds.ensures.kept, c.bonds.ensures.kept.few_arcs)
