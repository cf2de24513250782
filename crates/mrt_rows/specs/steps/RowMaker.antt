-- For which sources rows can be made.
use Rattle.std.specs.Prelude.{◌<◌, ◌≤◌, ◌+◌, ℕ, length}
use Rattle.mrt_graph.specs.Topology.{Topology}
use Rattle.link_direction.specs.Directions.{Directions}
use Rattle.mrt_rows.specs.declared.of_source.RowMaker.{RowMaker}
use Rattle.mrt_rows.specs.Put.{AreInCommonBlockOfMoreLinks}

-- the fans are open from s, where it lies in a block of more than one link
pub record IsOpenFor (g : Topology) (w : Directions) (maker : RowMaker) (s : ℕ) : Type 0 where
  pub each : (t : ℕ) → t < length g.ids → AreInCommonBlockOfMoreLinks g w s t
      → (maker.first ≤ s) × (s < maker.first + maker.width)
