-- Rows and lines by the rows of a column.
use Rattle.std.proofs.Common.{◌≢◌, ◌<◌, ◌++◌, ℕ, List, [], ◌∷◌, Option, length, refl, sym}
use Rattle.std.specs.List.{AllZip, concat}
use Rattle.area_graph.specs.AreaInvariant.{IsArea}
use Rattle.area_graph.specs.Fits.{Fits}
use Rattle.area_graph.specs.Parts.{AreaParts}
use Rattle.mrt_graph.specs.Certificate.{row_of}
use Rattle.mrt_graph.specs.Column.{rows_of_column}
use Rattle.mrt_graph.specs.GraphInvariant.{IsTopology}
use Rattle.mrt_graph.specs.Rows.{Rows}
use Rattle.mrt_graph.specs.Sound.{SoundFor}
use Rattle.mrt_graph.specs.Topology.{Topology}
use Rattle.mrt_graph.proofs.LeadsOn.{sound-hop}
use Rattle.mrt_report.specs.ByColumn.{IsLineByColumn, IsRowByColumn}
use Rattle.mrt_report.specs.steps.LineParts.{AreLineParts}
use Rattle.mrt_report.specs.LineParts.{line_parts}
use Rattle.mrt_report.specs.TableParts.{TableParts}
use Rattle.mrt_report.specs.TableText.{IsHead, IsTableLine, IsTableRow, IsTableText, others}
use Rattle.mrt_report.proofs.AgreeingRows.{line_too, row_too}
use Rattle.mrt_report.specs.declared.row.TableRow.{TableRow}

-- sound rows lead on
pub parts_by_sound : (area : AreaParts) (island : Topology) (link_of : List (Option ℕ)) (rows : Rows) (source to : ℕ)
    → IsArea area → IsTopology island → Fits area island link_of → source < length island.ids → to < length island.ids → source ≢ to
    → ((s : ℕ) → s < length island.ids → s ≢ to → SoundFor island.links (length island.ids) rows s to)
    → AreLineParts (line_parts area island link_of rows source) to
parts_by_sound area island link_of rows source to area_kept island_kept fits within target other sound = record {
  area_kept = area_kept;
  island_kept = island_kept;
  fits = fits;
  within = within;
  target = target;
  different = other;
  leads_on = λ color s inside apart. sound-hop island.links (length island.ids) rows color s to apart (sound s inside apart);
}

-- a line by a column with the certificate's rows is a line of the table
line_of_table : (parts : TableParts) (to : ℕ) (text : List ℕ) → IsLineByColumn parts to text → IsTableLine parts to text
line_of_table parts to text by = record {
  primary = by.primary;
  primary_is = by.primary_is;
  line = line_too parts.area parts.island parts.link_of parts.source to (rows_of_column by.column) (row_of parts.cert) (λ s. sym (by.rows s)) by.primary text by.line;
}

all_of_table : (parts : TableParts) (nodes : List ℕ) (lines : List (List ℕ)) → AllZip (IsLineByColumn parts) nodes lines → AllZip (IsTableLine parts) nodes lines
all_of_table parts [] [] all = tt
all_of_table parts [] (line ∷ lines) all = absurd all
all_of_table parts (to ∷ nodes) [] all = absurd all
all_of_table parts (to ∷ nodes) (line ∷ lines) all = (line_of_table parts to line all.0, all_of_table parts nodes lines all.1)

-- the first line and these lines are the table
pub table_by_columns : (parts : TableParts) (root : ℕ) (head : List ℕ) (lines : List (List ℕ)) → IsHead parts.island root parts.source head
    → AllZip (IsLineByColumn parts) (others (length parts.island.ids) parts.source) lines → IsTableText parts root (head ++ concat lines)
table_by_columns parts root head lines first all = record {
  head = head;
  head_is = first;
  lines = lines;
  lines_are = all_of_table parts (others (length parts.island.ids) parts.source) lines all;
  spelled = refl;
}

-- so are rows
pub row_of_table : (parts : TableParts) (to : ℕ) (row : TableRow) → IsRowByColumn parts to row → IsTableRow parts to row
row_of_table parts to row by = record {
  primary = by.primary;
  primary_is = by.primary_is;
  row_is = row_too parts.area parts.island parts.link_of parts.source to (rows_of_column by.column) (row_of parts.cert) (λ s. sym (by.rows s)) by.primary row by.row_is;
}

pub rows_of_table : (parts : TableParts) (nodes : List ℕ) (rows : List TableRow) → AllZip (IsRowByColumn parts) nodes rows → AllZip (IsTableRow parts) nodes rows
rows_of_table parts [] [] all = tt
rows_of_table parts [] (row ∷ rows) all = absurd all
rows_of_table parts (to ∷ nodes) [] all = absurd all
rows_of_table parts (to ∷ nodes) (row ∷ rows) all = (row_of_table parts to row all.0, rows_of_table parts nodes rows all.1)
