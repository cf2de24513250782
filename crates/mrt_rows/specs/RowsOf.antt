-- The rows of a node.
use Rattle.std.specs.Prelude.{◌≡◌, ◌≢◌, ◌==◌, ◌<◌, ◌+◌, ◌-◌, ℕ, List, Option, Some, None, length, nat_lt, slice_get, if◌then◌else◌}
use Rattle.mrt_graph.specs.declared.cert.Row.{Row}
use Rattle.mrt_graph.specs.Topology.{Topology}
use Rattle.link_direction.specs.Directions.{Directions}
use Rattle.mrt_rows.specs.RowLines.{LineOf}

-- among these rows of s there is one for t, and it is as the line of its tag says
pub record HasRow (g : Topology) (root : ℕ) (w : Directions) (s : ℕ) (rows : ℕ → Option Row) (t : ℕ) : Type 0 where
  pub row : Row
  pub is : rows t ≡ Some row
  pub line : LineOf row.tag g root w s rows t row

-- the rows of s by destination, where they stand by ascending destination, s left out
abbrev pub rows_for : ℕ → List Row → ℕ → Option Row
rows_for s rows t = if t == s then None else slice_get rows (if nat_lt t s then t else t - 1)

-- the rows of s for all other nodes, by ascending destination
pub record AreRowsOf (g : Topology) (root : ℕ) (w : Directions) (s : ℕ) (rows : List Row) : Type 0 where
  pub one_each : length rows + 1 ≡ length g.ids
  pub each : (t : ℕ) → t < length g.ids → s ≢ t → HasRow g root w s (rows_for s rows) t
