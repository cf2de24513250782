-- The rows of all nodes are those of the columns.
use Rattle.std.proofs.Common.{◌≡◌, ◌≢◌, ◌∙◌, ◌<◌, ◌-◌, ◌*◌, ℕ, List, Option, Some, length, slice_get, ap}
use Rattle.mrt_graph.specs.declared.cert.Row.{Row}
use Rattle.mrt_rows.specs.ColumnOf.{IsColumnOf}
use Rattle.mrt_rows.specs.steps.ColumnOf.{IsRowIn}
use Rattle.mrt_rows.specs.steps.RowsOf.{AreAllRows, row_among}
use Rattle.mrt_rows.specs.RowsOf.{HasRow}
use Rattle.mrt_rows.proofs.OrderedGraphs.{OrderedGraph}
use Rattle.mrt_rows.proofs.RowsExist.{each_row, each_the, row_in, rows_have}
use Rattle.mrt_rows.proofs.SoundColumns.{stands}

module _ (og : OrderedGraph) where
  abbrev n : ℕ
  n = length og.g.ids

  -- the row of s in the column of t
  pub record IsInColumn (s t : ℕ) (column : List (Option Row)) : Type 0 where
    pub row : Row
    pub there : slice_get column s ≡ Some (Some row)
    pub each : (rows : ℕ → Option Row) → ((u : ℕ) → u < n → s ≢ u → HasRow og.g og.root og.w s rows u) → rows t ≡ Some row

  pub row_in_column : (s t : ℕ) (column : List (Option Row)) → s < n → t < n → s ≢ t → IsColumnOf og.g og.root og.w t column → IsInColumn s t column
  row_in_column s t column s_within t_within two is =
      let it = row_in og s t (each_row og s t) s_within t_within two (each_the og s t s_within t_within two) in
      record { row = it.row; there = stands og t t_within column is s s_within two ∙ ap (λ (o : Option Row). Some o) it.is; each = it.each }

  -- where each row is that of a column, they are the rows of all nodes
  pub all_of_columns : (rows : List Row) → length rows ≡ n * (n - 1)
      → ((s t : ℕ) → s < n → t < n → s ≢ t → IsRowIn og.g og.root og.w s t (row_among n rows s t)) → AreAllRows og.g og.root og.w rows
  all_of_columns rows room put = record {
    count = room;
    each = λ s t s_within. rows_have og s (row_among n rows s) s_within (λ u. put s u s_within) t;
  }
