-- Nodes that have a block in common, and the first links that their rows are made from.
use Rattle.std.specs.Prelude.{◌≡◌, ◌<◌, ℕ, Bool, true, List, Some, length, slice_get}
use Rattle.mrt_graph.specs.Topology.{Topology}
use Rattle.link_direction.specs.Directions.{Directions}
use Rattle.block_spf.specs.declared.reach.Dir.TheVariants.{Down, Up}
use Rattle.block_spf.specs.FirstLink.{IsFirstLink}
use Rattle.block_spf.specs.LeastPath.{HasMoreLinks, HaveCommonBlockOfMoreLinks}
use Rattle.mrt_rows.specs.declared.row_over.FirstLinks.{FirstLinks}

-- s and t have a block of more than one link in common
pub record AreInCommonBlockOfMoreLinks (g : Topology) (w : Directions) (s t : ℕ) : Type 0 where
  pub block : ℕ
  pub head : ℕ
  pub share : HaveCommonBlockOfMoreLinks g w s t block head

-- the head of each block of more than one link is marked
pub record AreHeadsMarked (g : Topology) (w : Directions) (marks : List Bool) : Type 0 where
  pub each : (v : ℕ) → v < length g.ids → HasMoreLinks g w (w.block v) → slice_get marks (w.head v) ≡ Some true

-- the links by which s begins the least paths to t, where they have a block of more than one link in common
pub record AreFirstLinks (g : Topology) (w : Directions) (s t : ℕ) (links : FirstLinks) : Type 0 where
  pub up : AreInCommonBlockOfMoreLinks g w s t → IsFirstLink g w Up s t links.up
  pub down : AreInCommonBlockOfMoreLinks g w s t → IsFirstLink g w Down s t links.down
