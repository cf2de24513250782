-- Tiles up and down, and what they are aimed at.
use Rattle.std.specs.Prelude.{◌≡◌, ◌<◌, ◌⊎◌, ◌+◌, ◌*◌, ℕ, Bool, true, List, Some, length, slice_get, slice_index}
use Rattle.mrt_graph.specs.Topology.{Topology}
use Rattle.link_direction.specs.Directions.{Directions}
use Rattle.block_spf.specs.declared.reach.Dir.TheVariants.{Down, Up}
use Rattle.block_spf.specs.BlockAims.{aim_at}
use Rattle.block_spf.specs.Tile.{IsAimed, IsTile}
use Rattle.mrt_rows.specs.declared.row_over.FirstLinks.{FirstLinks}
use Rattle.mrt_rows.specs.declared.tiles.Tiles.{Tiles}

-- tiles of the graph up and down with so many places for each node, what its blocks aim at there, and a mark on each block
pub record AreTiles (g : Topology) (places : ℕ) (tiles : Tiles) : Type 0 where
  pub aims : length tiles.aims.items ≡ length g.ids * places
  pub a_mark_each : length tiles.wanted.items ≡ length g.ids
  pub up : IsTile g places tiles.up
  pub down : IsTile g places tiles.down

-- they have a place j for node s
pub record HavePlace (tiles : Tiles) (s j : ℕ) : Type 0 where
  pub up : (s < tiles.up.nodes) × (j < tiles.up.width)
  pub down : (s < tiles.down.nodes) × (j < tiles.down.width)

-- they have a place j for node s, and there these links
pub record HaveLinksAt (tiles : Tiles) (s j : ℕ) (links : FirstLinks) : Type 0 where
  pub place : HavePlace tiles s j
  pub up : slice_get tiles.up.links (s * tiles.up.width + j) ≡ Some links.up
  pub down : slice_get tiles.down.links (s * tiles.down.width + j) ≡ Some links.down

-- in the marked blocks they are aimed at what these aim at
pub record AreTilesAimed (g : Topology) (w : Directions) (tiles : Tiles) : Type 0 where
  pub up : IsAimed g w tiles.wanted.items Up tiles.aims.items tiles.up
  pub down : IsAimed g w tiles.wanted.items Down tiles.aims.items tiles.down

-- firsts has for each block the node that it aims at in the first place; each marked block is still wanted, or shared, and a
-- shared one aims at one node in all places
pub record AreShared (count width : ℕ) (aims : List ℕ) (marks wanted : List Bool) (firsts : List ℕ) (shared : List Bool) : Type 0 where
  pub first : (k : ℕ) → k < count → slice_index firsts k ≡ aim_at aims width 0 k
  pub alike : (j k : ℕ) → j < width → slice_get shared k ≡ Some true → aim_at aims width j k ≡ slice_index firsts k
  pub marked : (k : ℕ) → slice_get marks k ≡ Some true → (slice_get wanted k ≡ Some true) ⊎ (slice_get shared k ≡ Some true)
