-- The text of a router's table.
use Rattle.std.specs.Prelude.{◌≡◌, ◌==◌, ◌++◌, ℕ, not, List, Some, codes, decimal, length, slice_get}
use Rattle.std.specs.List.{AllZip, concat, filter, range_with_len}
use Rattle.mrt_graph.specs.declared.node_id.NodeId.{NodeId}
use Rattle.text_parts.specs.Spelling.{node_text}
use Rattle.mrt_graph.specs.Topology.{Topology}
use Rattle.primary_alt.specs.declared.shortest.Primary.{Primary}
use Rattle.mrt_report.specs.Lines.{IsLine}
use Rattle.mrt_report.specs.Rows.{IsRow}
use Rattle.mrt_report.specs.declared.row.TableRow.{TableRow}
use Rattle.mrt_report.specs.TableParts.{TableParts, IsPrimaryFor, parts_of_lines}

-- of the first nodes all but one, by ascending identifier
abbrev pub others : ℕ → ℕ → List ℕ
others count source = filter (λ n. not (n == source)) (range_with_len 0 count)

-- the first line: the router, the GADAG root, and how many nodes and links the island has
abbrev pub head_line : NodeId → NodeId → ℕ → ℕ → List ℕ
head_line router root nodes links =
    codes "router " ++ node_text router ++ codes " root " ++ node_text root ++ codes " nodes " ++ decimal nodes
    ++ codes " links " ++ decimal links ++ codes "\n"

-- the first line of the table of a router of an island
pub record IsHead (island : Topology) (root source : ℕ) (text : List ℕ) : Type 0 where
  pub router : NodeId
  pub router_is : slice_get island.ids source ≡ Some router
  pub root_id : NodeId
  pub root_is : slice_get island.ids root ≡ Some root_id
  pub spelled : text ≡ head_line router root_id (length island.ids) (length island.links)

-- the line on a destination, by the certificate's rows and the router's primary for it
pub record IsTableLine (parts : TableParts) (to : ℕ) (text : List ℕ) : Type 0 where
  pub primary : Primary
  pub primary_is : IsPrimaryFor parts.area parts.island parts.primaries to primary
  pub line : IsLine (parts_of_lines parts) to primary text

-- the row on a destination, by the certificate's rows and the router's primary for it
pub record IsTableRow (parts : TableParts) (to : ℕ) (row : TableRow) : Type 0 where
  pub primary : Primary
  pub primary_is : IsPrimaryFor parts.area parts.island parts.primaries to primary
  pub row_is : IsRow (parts_of_lines parts) to primary row

-- the first line, and one line on each other node of the island, by ascending identifier
pub record IsTableText (parts : TableParts) (root : ℕ) (text : List ℕ) : Type 0 where
  pub head : List ℕ
  pub head_is : IsHead parts.island root parts.source head
  pub lines : List (List ℕ)
  pub lines_are : AllZip (IsTableLine parts) (others (length parts.island.ids) parts.source) lines
  pub spelled : text ≡ head ++ concat lines
