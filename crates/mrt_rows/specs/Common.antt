-- What the columns of all destinations have in common.
use Rattle.std.specs.Prelude.{◌≡◌, ◌<◌, ℕ, length}
use Rattle.mrt_graph.specs.Topology.{Topology}
use Rattle.link_direction.specs.Directions.{Directions}
use Rattle.block_spf.specs.declared.reach.Dir.TheVariants.{Down, Up}
use Rattle.block_spf.specs.Turns.{AreTurns}
use Rattle.mrt_rows.specs.declared.common.Common.{Common}
use Rattle.mrt_rows.specs.declared.row_over.FirstLinks.{FirstLinks}
use Rattle.mrt_rows.specs.declared.tiles.Tiles.{Tiles}
use Rattle.mrt_rows.specs.NearOf.{AreSoles}
use Rattle.mrt_rows.specs.Put.{AreFirstLinks, AreHeadsMarked}
use Rattle.mrt_rows.specs.TilesAimed.{AreTiles, HaveLinksAt}

-- the links of each node are those by which it begins the least paths to its head, where its block has more than one link
pub record AreHomes (g : Topology) (w : Directions) (homes : Tiles) : Type 0 where
  pub each : (v : ℕ) (home : FirstLinks) → v < length g.ids → HaveLinksAt homes v 0 home → AreFirstLinks g w v (w.head v) home

-- the nodes by their turns, marks on the heads of blocks, the sole links, and the links home of all nodes
pub record AreCommon (g : Topology) (w : Directions) (common : Common) : Type 0 where
  pub by_order : AreTurns g w Up common.by_order.items
  pub against_order : AreTurns g w Down common.against_order.items
  pub a_mark_each : length common.heads.items ≡ length g.ids
  pub marked : AreHeadsMarked g w common.heads.items
  pub soles : AreSoles g w common.soles.items
  pub one_place : AreTiles g 1 common.homes
  pub homes : AreHomes g w common.homes
