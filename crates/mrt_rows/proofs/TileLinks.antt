-- The first links that tiles have of a node.
use Rattle.std.proofs.Common.{◌≡◌, ◌<◌, ◌+◌, ◌*◌, ℕ, Bool, true, List, Some, length, slice_get, sym, subst, arith}
use Rattle.mrt_graph.specs.Topology.{Topology}
use Rattle.link_direction.specs.Directions.{Directions}
use Rattle.block_spf.specs.declared.reach.Dir.{Dir}
use Rattle.block_spf.specs.declared.reach.Dir.TheVariants.{Down, Up}
use Rattle.block_spf.specs.BlockAims.{IsAimOf, aim_at}
use Rattle.block_spf.specs.FirstLink.{IsFirstLink}
use Rattle.block_spf.specs.LeastPath.{HaveCommonBlockOfMoreLinks}
use Rattle.block_spf.specs.Tile.{IsAimed, IsTile}
use Rattle.block_spf.specs.TileEntries.{TileEntries}
use Rattle.mrt_rows.specs.declared.row_over.FirstLinks.{FirstLinks}
use Rattle.mrt_rows.specs.declared.tiles.Tiles.{Tiles}
use Rattle.mrt_rows.specs.Put.{AreFirstLinks, AreInCommonBlockOfMoreLinks}
use Rattle.mrt_rows.specs.TilesAimed.{AreTiles, AreTilesAimed, HaveLinksAt, HavePlace}

module _ (g : Topology) (w : Directions) (wanted : List Bool) (aims : List ℕ) (places j s t : ℕ) (below : j < places)
    (s_within : s < length g.ids) (t_within : t < length g.ids)
    (over : (k h : ℕ) → HaveCommonBlockOfMoreLinks g w s t k h → (slice_get wanted k ≡ Some true) × IsAimOf g w (aim_at aims places j) s t) where
  first_link : (dir : Dir) (tile : TileEntries) (link : ℕ) → IsTile g places tile → IsAimed g w wanted dir aims tile
      → slice_get tile.links (s * tile.width + j) ≡ Some link → AreInCommonBlockOfMoreLinks g w s t → IsFirstLink g w dir s t link
  first_link dir tile link is aimed at shares =
      let it = over shares.block shares.head shares.share in
      (aimed.each s s_within).each j t shares.block shares.head link (omega (arith, below, is.width)) t_within shares.share it.0
      (subst (λ (k : ℕ). IsAimOf g w (aim_at aims k j) s t) (sym is.width) it.1) at

-- where they are aimed at t over each block that s has in common with it
pub tile_links : (g : Topology) (w : Directions) (tiles : Tiles) (places j s t : ℕ) (links : FirstLinks) → AreTiles g places tiles → AreTilesAimed g w tiles
    → j < places → s < length g.ids → t < length g.ids
    → ((k h : ℕ) → HaveCommonBlockOfMoreLinks g w s t k h → (slice_get tiles.wanted.items k ≡ Some true) × IsAimOf g w (aim_at tiles.aims.items places j) s t)
    → HaveLinksAt tiles s j links → AreFirstLinks g w s t links
tile_links g w tiles places j s t links are aimed below s_within t_within over at = record {
  up = first_link g w tiles.wanted.items tiles.aims.items places j s t below s_within t_within over Up tiles.up links.up are.up aimed.up at.up;
  down = first_link g w tiles.wanted.items tiles.aims.items places j s t below s_within t_within over Down tiles.down links.down are.down aimed.down at.down;
}

pub have_place : (g : Topology) (tiles : Tiles) (places s j : ℕ) → AreTiles g places tiles → s < length g.ids → j < places → HavePlace tiles s j
have_place g tiles places s j are within below = record {
  up = (omega (arith, are.up.nodes, within), omega (arith, are.up.width, below));
  down = (omega (arith, are.down.nodes, within), omega (arith, are.down.width, below));
}
