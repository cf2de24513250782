-- A row in a column.
use Rattle.std.specs.Prelude.{◌≡◌, ◌≢◌, ◌<◌, ℕ, Option, Some, length}
use Rattle.mrt_graph.specs.declared.cert.Row.{Row}
use Rattle.mrt_graph.specs.Topology.{Topology}
use Rattle.link_direction.specs.Directions.{Directions}
use Rattle.mrt_rows.specs.RowsOf.{HasRow}

-- the row of s for t that is among its rows by the table
pub record IsRowIn (g : Topology) (root : ℕ) (w : Directions) (s t : ℕ) (found : Option Row) : Type 0 where
  pub row : Row
  pub is : found ≡ Some row
  pub each : (rows : ℕ → Option Row) → ((u : ℕ) → u < length g.ids → s ≢ u → HasRow g root w s rows u) → rows t ≡ Some row
