use Rattle.std.proofs.Common.{◌≡◌, ◌⊎◌, ◌<◌, ℕ, true, Some, length, slice_get}
use Rattle.link_direction.specs.Directions.{Directions}
use Rattle.block_spf.specs.steps.Aiming.{HaveOwnPaths}
use Rattle.block_spf.specs.FirstLink.{HasLinksAt, LiesInOneBlock}
use Rattle.block_spf.specs.HasDirections.{AreDirections}
use Rattle.block_spf.specs.steps.TileEntries.{AreTileEntries}
use Rattle.block_spf.proofs.tile.Tile.aim.Given as goal

abbrev pub invariant-loop-n : goal.invariant-loop-n
invariant-loop-n l = record {
  nodes : l.self-inside.nodes ≡ l.fn.self.nodes;
  width : length l.self-inside.costs.items ≡ l.fn.self.width;
  kept : AreTileEntries l.self-inside.nodes (length l.self-inside.costs.items) (length l.self-inside.links.items)
      l.self-inside.all_costs.items l.self-inside.all_links.items;
  own : HaveOwnPaths l.aiming l.fn.self.width l.self-inside.all_costs.items l.initial.self-inside.all_links.items;
  linked : (root s : ℕ) (w : Directions) → AreDirections l.aiming.graph.now l.aiming.directed.now root w → s < length l.aiming.graph.now.ids
      → LiesInOneBlock l.aiming.graph.now w s ⊎ ((s < l.n) × (slice_get l.heads s ≡ Some true))
      → HasLinksAt l.aiming.graph.now w l.aiming.wanted.now l.aiming.dir l.aiming.aims.now l.fn.self.width l.self-inside.all_links.items s;
}
