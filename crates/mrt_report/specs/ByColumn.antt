-- The rows and the lines of a table by the rows for one destination.
use Rattle.std.specs.Prelude.{◌≡◌, ℕ, List, Option}
use Rattle.mrt_graph.specs.declared.cert.Row.{Row}
use Rattle.mrt_graph.specs.Certificate.{row_of}
use Rattle.mrt_graph.specs.Column.{rows_of_column}
use Rattle.primary_alt.specs.declared.shortest.Primary.{Primary}
use Rattle.mrt_report.specs.LineParts.{line_parts}
use Rattle.mrt_report.specs.Lines.{IsLine}
use Rattle.mrt_report.specs.Rows.{IsRow}
use Rattle.mrt_report.specs.declared.row.TableRow.{TableRow}
use Rattle.mrt_report.specs.TableParts.{TableParts, IsPrimaryFor}

-- the line on a destination by a column, which has the certificate's rows of all nodes for it, and by the router's
-- primary for it
pub record IsLineByColumn (parts : TableParts) (to : ℕ) (text : List ℕ) : Type 0 where
  pub column : List (Option Row)
  pub rows : (s : ℕ) → row_of parts.cert s to ≡ rows_of_column column s to
  pub primary : Primary
  pub primary_is : IsPrimaryFor parts.area parts.island parts.primaries to primary
  pub line : IsLine (line_parts parts.area parts.island parts.link_of (rows_of_column column) parts.source) to primary text

-- the row on a destination by such a column
pub record IsRowByColumn (parts : TableParts) (to : ℕ) (row : TableRow) : Type 0 where
  pub column : List (Option Row)
  pub rows : (s : ℕ) → row_of parts.cert s to ≡ rows_of_column column s to
  pub primary : Primary
  pub primary_is : IsPrimaryFor parts.area parts.island parts.primaries to primary
  pub row_is : IsRow (line_parts parts.area parts.island parts.link_of (rows_of_column column) parts.source) to primary row
