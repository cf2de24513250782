-- The rows of all nodes for some destinations.
use Rattle.std.specs.Prelude.{◌≡◌, ℕ, Bool, List, Option, slice_get}
use Rattle.std.specs.Option.{option_and_then}
use Rattle.mrt_graph.specs.declared.cert.CertFile.{CertFile}
use Rattle.mrt_graph.specs.declared.cert.Row.{Row}
use Rattle.mrt_graph.specs.Certificate.{row_of}
use Rattle.mrt_graph.specs.Column.{rows_of_column}
use Rattle.mrt_graph.specs.Rows.{Rows}
use Rattle.mrt_graph.specs.Search.{IsMarked}

-- columns, and of each node the place of its column, if it has one
pub record ColumnsHeld : Type 0 where
  pub places : List (Option ℕ)
  pub columns : List (List (Option Row))

-- the rows in them, for the nodes that have a column; none for any other
abbrev pub rows_in : ColumnsHeld → Rows
rows_in held s t =
    option_and_then (λ column. rows_of_column column s t)
    (option_and_then (slice_get held.columns) (option_and_then (λ place. place) (slice_get held.places t)))

-- for each marked node all nodes have the rows of a certificate
abbrev pub AreRowsTo : List Bool → CertFile → ColumnsHeld → Type 0
AreRowsTo marks file held = (t : ℕ) → IsMarked marks t → (s : ℕ) → row_of file.cert s t ≡ rows_in held s t
