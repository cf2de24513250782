-- The rows of a router's table.
use Rattle.std.specs.Prelude.{◌≡◌, ◌≢◌, ℕ, List, Option, Some, Ok, Err, length, map, slice_get}
use Rattle.std.specs.List.{AllZip}
use Rattle.area_graph.specs.Parts.{AreaParts}
use Rattle.cert_format.specs.CertText.{kind_number}
use Rattle.mrt_graph.specs.NodeIds.{router as router_node}
use Rattle.mrt_graph.specs.declared.cert.CertFile.{CertFile}
use Rattle.mrt_graph.specs.declared.node_id.NodeId.{NodeId}
use Rattle.mrt_island.specs.declared.island.Island.{Island}
use Rattle.mrt_report.specs.TableParts.{TableParts, table_parts}
use Rattle.mrt_report.specs.TableText.{IsTableRow, others}
use Rattle.mrt_report.specs.declared.row.TableRow.{TableRow}
use Rattle.primary_alt.specs.Primaries.{ArePrimaries}
use Rattle.primary_alt.specs.declared.shortest.Primary.{Primary}
use Rattle.mrt_exit.specs.AnswerSteps.{Step, such, ◌▸◌}
use Rattle.mrt_exit.specs.declared.exit.Exit.TheVariants.{NotThere}
use Rattle.mrt_answer.specs.Input.{Input, area}
use Rattle.mrt_answer.specs.Islands.{island_in}
use Rattle.mrt_answer.specs.Texts.{IsComputedFile}
use Rattle.mrt_calls.specs.Areas.{input_in}
use Rattle.mrt_calls.specs.RowNumbers.{row_in}
use Rattle.mrt_calls.specs.declared.area.MrtArea.{MrtArea}
use Rattle.mrt_calls.specs.declared.row.MrtRow.{MrtRow}

-- what a router's table is made from: the router by its number in its island and by its number in the area, the certificate of
-- the island, and the router's primaries for all nodes of the area
pub record TableFooting (area : AreaParts) (island : Island) (router : ℕ) : Type 0 where
  pub source : ℕ
  pub source_is : slice_get island.graph.ids source ≡ Some (router_node router)
  pub spot : ℕ
  pub spot_is : slice_get area.ids spot ≡ Some (router_node router)
  pub file : CertFile
  pub certificate : IsComputedFile island.graph island.root file
  pub primaries : List (Option Primary)
  pub primaries_are : ArePrimaries area spot primaries

-- as the text of a table has it
abbrev pub parts_on : (area : AreaParts) (island : Island) (router : ℕ) → TableFooting area island router → TableParts
parts_on area island router footing =
    table_parts area island.graph island.link_of footing.file.cert footing.source footing.primaries

-- these are the rows of the other nodes by ascending identifier, in numbers
pub record AreTableRows (area : AreaParts) (island : Island) (router : ℕ) (rows : List MrtRow) : Type 0 where
  pub footing : TableFooting area island router
  pub lines : List TableRow
  pub lines_are : AllZip (IsTableRow (parts_on area island router footing)) (others (length island.graph.ids) footing.source) lines
  pub in_numbers : rows ≡ map row_in lines

-- the rows of a router in its island
abbrev pub tabled : Input → ℕ → Step (List MrtRow)
tabled input router = island_in input router ▸ λ island. such (AreTableRows (area input) island router)

abbrev pub table_in : MrtArea → ℕ → Step (List MrtRow)
table_in of router = input_in of ▸ λ input. tabled input router

-- the row of one node
pub record IsTheRow (area : AreaParts) (island : Island) (router to : ℕ) (row : MrtRow) : Type 0 where
  pub footing : TableFooting area island router
  pub line : TableRow
  pub line_is : IsTableRow (parts_on area island router footing) to line
  pub in_numbers : row ≡ row_in line

-- a node of this kind and this number
abbrev pub IsNamed : NodeId → ℕ → ℕ → Type 0
IsNamed id kind number = (kind_number id.kind ≡ kind) × (id.number ≡ number)

-- another node than the router, by its kind and its number; or that there is none
abbrev pub other_place : List NodeId → ℕ → ℕ → ℕ → Step ℕ
other_place ids router kind number (Ok to) =
    (id : NodeId) × (slice_get ids to ≡ Some id) × IsNamed id kind number × (id ≢ router_node router)
other_place ids router kind number (Err (NotThere missing)) =
    (missing ≡ number) × ((to : ℕ) (id : NodeId) → slice_get ids to ≡ Some id → IsNamed id kind number → id ≡ router_node router)
other_place ids router kind number (Err _) = ⊥

abbrev pub row_of : AreaParts → Island → ℕ → ℕ → ℕ → Step MrtRow
row_of area island router kind number =
    other_place island.graph.ids router kind number ▸ λ to. such (IsTheRow area island router to)

abbrev pub rowed : Input → ℕ → ℕ → ℕ → Step MrtRow
rowed input router kind number = island_in input router ▸ λ island. row_of (area input) island router kind number

abbrev pub row_for_in : MrtArea → ℕ → ℕ → ℕ → Step MrtRow
row_for_in of router kind number = input_in of ▸ λ input. rowed input router kind number
