-- The rows of all nodes.
use Rattle.std.specs.Prelude.{◌≡◌, ◌≢◌, ◌<◌, ◌-◌, ◌*◌, ℕ, List, Option, None, length, slice_get, if◌then◌else◌}
use Rattle.mrt_graph.specs.declared.cert.Row.{Row}
use Rattle.mrt_graph.specs.Certificate.{are_two}
use Rattle.mrt_graph.specs.RowPlace.{place_of_row}
use Rattle.mrt_graph.specs.Topology.{Topology}
use Rattle.link_direction.specs.Directions.{Directions}
use Rattle.mrt_rows.specs.RowsOf.{HasRow}

-- the row of s for t among the rows of n nodes, by ascending source, then by ascending destination
abbrev pub row_among : ℕ → List Row → ℕ → ℕ → Option Row
row_among n rows s t = if are_two n s t then slice_get rows (place_of_row n s t) else None

-- the rows of all nodes
pub record AreAllRows (g : Topology) (root : ℕ) (w : Directions) (rows : List Row) : Type 0 where
  pub count : length rows ≡ length g.ids * (length g.ids - 1)
  pub each : (s t : ℕ) → s < length g.ids → t < length g.ids → s ≢ t
      → HasRow g root w s (row_among (length g.ids) rows s) t
