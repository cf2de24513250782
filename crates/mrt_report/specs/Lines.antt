-- A table's row, spelled as a line.
use Rattle.std.specs.Prelude.{◌≡◌, ◌++◌, ℕ, List, [], Option, Some, None, codes}
use Rattle.text_parts.specs.Spelling.{node_text}
use Rattle.primary_alt.specs.declared.shortest.Primary.{Primary}
use Rattle.mrt_report.specs.LineParts.{LineParts}
use Rattle.mrt_report.specs.Rows.{IsRow}
use Rattle.text_parts.specs.Hops.{hop_text}
use Rattle.mrt_report.specs.Cells.{letter_text, tag_text}
use Rattle.mrt_report.specs.declared.row.ArcRepairs.{ArcRepairs}
use Rattle.mrt_report.specs.declared.row.TableRow.{TableRow}

-- a letter for what repairs the bond of an arc, and one for the node that it leads to
abbrev pub arc_letters : ArcRepairs → List ℕ
arc_letters repairs = letter_text repairs.link ++ letter_text repairs.node

-- of an arc that may not be there
abbrev pub second_letters : Option ArcRepairs → List ℕ
second_letters None = []
second_letters (Some repairs) = arc_letters repairs

-- the hops of both colors
abbrev pub color_words : TableRow → List ℕ
color_words row =
    tag_text row.tag ++ codes " blue " ++ hop_text row.blue.far row.blue.link_data ++ codes " red "
    ++ hop_text row.red.far row.red.link_data

-- the hop of the primary, and what repairs the failure of each of its elements
abbrev pub primary_words : TableRow → List ℕ
primary_words row =
    hop_text row.primary.far row.primary.link_data ++ codes " repair " ++ arc_letters row.first ++ second_letters row.second

-- the line of a row
abbrev pub row_text : TableRow → List ℕ
row_text row =
    node_text row.id ++ codes " " ++ color_words row ++ codes " primary " ++ primary_words row ++ codes "\n"

-- the line on a destination, a node of the island, with the router's primary for it: that of its row
pub record IsLine (parts : LineParts) (to : ℕ) (primary : Primary) (text : List ℕ) : Type 0 where
  pub row : TableRow
  pub row_is : IsRow parts to primary row
  pub spelled : text ≡ row_text row
