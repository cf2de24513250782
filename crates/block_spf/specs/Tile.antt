-- A tile: the links by which all nodes begin the least paths to some nodes side by side.
use Rattle.std.specs.Prelude.{◌≡◌, ◌<◌, ℕ, Bool, List, length}
use Rattle.mrt_graph.specs.Topology.{Topology}
use Rattle.link_direction.specs.Directions.{Directions}
use Rattle.block_spf.specs.declared.reach.Dir.{Dir}
use Rattle.block_spf.specs.FirstLink.{HasLinksAt}
use Rattle.block_spf.specs.TileEntries.{TileEntries}

-- it is one of the graph, with so many places for each node
pub record IsTile (g : Topology) (places : ℕ) (tile : TileEntries) : Type 0 where
  pub nodes : tile.nodes ≡ length g.ids
  pub width : tile.width ≡ places

-- it is aimed so: it has the links of all nodes over the wanted blocks
pub record IsAimed (g : Topology) (w : Directions) (wanted : List Bool) (dir : Dir) (aims : List ℕ) (tile : TileEntries) : Type 0 where
  pub each : (s : ℕ) → s < length g.ids → HasLinksAt g w wanted dir aims tile.width tile.links s
