use Rattle.std.proofs.Common.{◌≡◌, length}
use Rattle.primary_alt.proofs.IslandNumbers.{AreTold}
use Rattle.primary_alt.proofs.in_island.bonds_of_links.Given as goal

abbrev pub invariant-loop-arc : goal.invariant-loop-arc
invariant-loop-arc l = record {
  many : length l.bonds.items ≡ length l.g.links;
  told : AreTold l.arcs l.link_of l.bonds.items l.arc-index;
}
