use Rattle.std.proofs.Common.{◌≡◌, length}
use Rattle.primary_alt.proofs.IslandNumbers.{AreNodesTo}
use Rattle.primary_alt.proofs.in_island.island_nodes.Given as goal

abbrev pub invariant-loop-n : goal.invariant-loop-n
invariant-loop-n l = record {
  many : length l.nodes.items ≡ length l.area.ids;
  told : AreNodesTo l.spots l.nodes.items l.n;
}
