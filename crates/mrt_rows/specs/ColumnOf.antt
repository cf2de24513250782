-- The column of a destination: the rows of all nodes for it.
use Rattle.std.specs.Prelude.{◌≡◌, ◌≢◌, ◌<◌, ℕ, List, Option, Some, None, length, slice_get}
use Rattle.mrt_graph.specs.declared.cert.Row.{Row}
use Rattle.mrt_graph.specs.Certificate.{Certificate, row_of}
use Rattle.mrt_graph.specs.Column.{rows_of_column}
use Rattle.mrt_graph.specs.Topology.{Topology}
use Rattle.link_direction.specs.Directions.{Directions}
use Rattle.mrt_rows.specs.RowsOf.{HasRow}

-- at the place of s stands its row for t: that for t among rows of s that are as the table says
pub record HasItsRow (g : Topology) (root : ℕ) (w : Directions) (t : ℕ) (column : List (Option Row)) (s : ℕ) : Type 0 where
  pub rows : ℕ → Option Row
  pub by_table : (u : ℕ) → u < length g.ids → s ≢ u → HasRow g root w s rows u
  pub stands : slice_get column s ≡ Some (rows t)

-- each other node has its row for t; at t itself there is none
pub record IsColumnOf (g : Topology) (root : ℕ) (w : Directions) (t : ℕ) (column : List (Option Row)) : Type 0 where
  pub one_each : length column ≡ length g.ids
  pub at_destination : slice_get column t ≡ Some None
  pub each : (s : ℕ) → s < length g.ids → s ≢ t → HasItsRow g root w t column s

-- the column has a certificate's rows of all nodes for t
pub record HasRowsFor (cert : Certificate) (t : ℕ) (column : List (Option Row)) : Type 0 where
  pub same : (s : ℕ) → row_of cert s t ≡ rows_of_column column s t

-- the columns are the rows of a certificate: that of each node has of all nodes their rows for it
pub record HasColumns (g : Topology) (root : ℕ) (w : Directions) (cert : Certificate) : Type 0 where
  pub each : (t : ℕ) (column : List (Option Row)) → t < length g.ids → IsColumnOf g root w t column
      → HasRowsFor cert t column
