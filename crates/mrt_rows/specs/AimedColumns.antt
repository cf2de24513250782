-- What is held between the columns of two destinations, and aimed at one.
use Rattle.std.specs.Prelude.{◌≡◌, ◌<◌, ℕ, Bool, List, Some, length, slice_get}
use Rattle.mrt_graph.specs.DirectedLists.{DirectedLists}
use Rattle.mrt_graph.specs.Topology.{Topology}
use Rattle.link_direction.specs.Directions.{Directions}
use Rattle.mrt_rows.specs.declared.column.Columns.{Columns}
use Rattle.mrt_rows.specs.declared.column.Target.{Target}
use Rattle.mrt_rows.specs.Chain.{AreBelow, AreBlockAims}
use Rattle.mrt_rows.specs.Common.{AreCommon}
use Rattle.mrt_rows.specs.ListedDirections.{AreRooted, directions_of}
use Rattle.mrt_rows.specs.TilesAimed.{AreShared, AreTiles, AreTilesAimed}

-- the destinations are nodes; each block aims, for each of them, at its node on the way from it to the root, or at its head;
-- and the tiles are aimed so in the blocks of more than one link on these ways: in the shared ones, which aim at one node for
-- all, those of one place, in the others those of a place for each
pub record AreBothAimed (g : Topology) (root : ℕ) (w : Directions) (held : Columns) : Type 0 where
  pub within : (j t : ℕ) → slice_get held.targets.items j ≡ Some t → t < length g.ids
  pub marks : List Bool
  pub aims : AreBlockAims g root w held.targets.items held.each.aims.items marks
  pub parted : AreShared (length g.ids) (length held.targets.items) held.each.aims.items marks held.each.wanted.items
      held.shared.aims.items held.shared.wanted.items
  pub each : AreTilesAimed g w held.each
  pub shared : AreTilesAimed g w held.shared

-- what all columns have in common, room for each node and each destination side by side, and tiles, which are aimed where a
-- node stands among these
pub record AreColumnsFor (g : Topology) (root : ℕ) (w : Directions) (held : Columns) (targets : List ℕ) : Type 0 where
  pub common : AreCommon g w held.common
  pub one_below_each : length held.below.items ≡ length g.ids
  pub some_places : 0 < length held.targets.items
  pub each : AreTiles g (length held.targets.items) held.each
  pub shared : AreTiles g 1 held.shared
  pub aimed : (j t : ℕ) → slice_get targets j ≡ Some t → t < length g.ids → AreBothAimed g root w held

-- they are aimed at the destinations in their places
abbrev pub AreColumns : Topology → ℕ → Directions → Columns → Type 0
AreColumns g root w held = AreColumnsFor g root w held held.targets.items

-- by the directions of the graph: the tiles are aimed at the destination at its place, and the nodes on its way to the root
-- are below their heads
pub record AreAimed (g : Topology) (root : ℕ) (d : DirectedLists) (columns : Columns) (to : Target) : Type 0 where
  pub rooted : AreRooted g root d
  pub within : to.node < length g.ids
  pub held : AreColumns g root (directions_of g d) columns
  pub below : AreBelow g root (directions_of g d) to.node columns.below.items
  pub place : slice_get columns.targets.items to.at ≡ Some to.node
