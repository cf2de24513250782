-- What makes the rows of a graph from a root, source after source.
use Rattle.std.specs.Prelude.{◌≡◌, ◌<◌, ℕ, length}
use Rattle.mrt_graph.specs.Topology.{Topology}
use Rattle.link_direction.specs.Directions.{Directions}
use Rattle.block_spf.specs.declared.reach.Dir.TheVariants.{Down, Up}
use Rattle.block_spf.specs.Fan.{IsOpen}
use Rattle.block_spf.specs.FanEntries.{FanEntries}
use Rattle.mrt_rows.specs.declared.of_source.RowMaker.{RowMaker}
use Rattle.mrt_rows.specs.Common.{AreCommon}
use Rattle.mrt_rows.specs.DirectedFrom.{IsDirectedFrom}
use Rattle.mrt_rows.specs.RowsFound.{RowsFound}
use Rattle.mrt_rows.specs.ListedDirections.{AreRooted, directions_of}

-- a fan of the graph has so many sources
pub record IsFanOf (g : Topology) (places : ℕ) (fan : FanEntries) : Type 0 where
  pub nodes : fan.nodes ≡ length g.ids
  pub width : fan.width ≡ places

-- this makes the rows of each source, some sources side by side: what the rows of all nodes have in common, and two fans, which
-- are open from the nodes from one number on
pub record IsRowMaker (g : Topology) (w : Directions) (maker : RowMaker) : Type 0 where
  pub common : AreCommon g w maker.common
  pub some : 0 < maker.width
  pub up : IsFanOf g maker.width maker.up
  pub down : IsFanOf g maker.width maker.down
  pub up_open : IsOpen g w Up maker.first maker.up
  pub down_open : IsOpen g w Down maker.first maker.down

-- so many sources are taken side by side
abbrev pub sources : ℕ
sources = 64

-- these make the rows of the graph from their root: there are the directions from it, what makes the rows of each source, and room
-- for those of one
pub record MakeRows (g : Topology) (rows : RowsFound) : Type 0 where
  pub rooted : AreRooted g rows.root rows.directed
  pub directed : IsDirectedFrom g rows.root rows.directed
  pub maker : IsRowMaker g (directions_of g rows.directed) rows.maker
  pub width : rows.maker.width ≡ sources
  pub room : rows.room ≡ length g.ids
