-- Rows and lines by rows that agree for the destination.
use Rattle.std.proofs.Common.{◌≡◌, ◌↔◌, ℕ, List, Option, Some, None, subst}
use Rattle.area_graph.specs.Parts.{AreaParts}
use Rattle.mrt_graph.specs.declared.cert.Row.{Row}
use Rattle.mrt_graph.specs.declared.link.Element.{Element}
use Rattle.mrt_graph.specs.Rows.{AreSameFor, Rows}
use Rattle.mrt_graph.specs.Topology.{Topology}
use Rattle.primary_alt.specs.declared.shortest.Primary.{Primary}
use Rattle.primary_alt.proofs.AgreeingRows.{alternate_too, turned}
use Rattle.mrt_report.specs.LineParts.{line_parts}
use Rattle.mrt_report.specs.Lines.{IsLine}
use Rattle.mrt_report.specs.Repairs.{AreArcElements, AreArcRepairs, AreSecondRepairs}
use Rattle.mrt_report.specs.Rows.{IsRow}
use Rattle.mrt_report.specs.declared.row.ArcRepairs.{ArcRepairs}
use Rattle.mrt_report.specs.declared.row.TableRow.{TableRow}

module _ (area : AreaParts) (island : Topology) (link_of : List (Option ℕ)) (source to : ℕ) where
  same_elements : (rows others : Rows) (number : ℕ) (link far : Option Element)
      → AreArcElements (line_parts area island link_of rows source) number link far
      → AreArcElements (line_parts area island link_of others source) number link far
  same_elements rows others number link far a = record {
    arc = a.arc;
    there = a.there;
    link_is = a.link_is;
    far = a.far;
    far_is = a.far_is;
    node_is = a.node_is;
  }

  same_repairs : (rows others : Rows) → AreSameFor to rows others → (number : ℕ) (repairs : ArcRepairs)
      → AreArcRepairs (line_parts area island link_of rows source) to number repairs
      → AreArcRepairs (line_parts area island link_of others source) to number repairs
  same_repairs rows others same number repairs a = record {
    link = a.link;
    node = a.node;
    elements_are = same_elements rows others number a.link a.node a.elements_are;
    link_repair_is = alternate_too _ _ to rows others same source a.link repairs.link a.link_repair_is;
    node_repair_is = alternate_too _ _ to rows others same source a.node repairs.node a.node_repair_is;
  }

  same_second : (rows others : Rows) → AreSameFor to rows others → (number : Option ℕ) (repairs : Option ArcRepairs)
      → AreSecondRepairs (line_parts area island link_of rows source) to number repairs
      → AreSecondRepairs (line_parts area island link_of others source) to number repairs
  same_second rows others same None None a = a
  same_second rows others same None (Some repairs) a = a
  same_second rows others same (Some number) None a = a
  same_second rows others same (Some number) (Some repairs) a = same_repairs rows others same number repairs a

  -- a row by the one rows is one by the others
  pub row_too : (rows others : Rows) → AreSameFor to rows others → (primary : Primary) (row : TableRow)
      → IsRow (line_parts area island link_of rows source) to primary row
      → IsRow (line_parts area island link_of others source) to primary row
  row_too rows others same primary row a = record {
    id_is = a.id_is;
    links = a.links;
    links_are = subst (λ (o : Option Row). o ≡ Some a.links) (same source) a.links_are;
    tag_is = a.tag_is;
    blue_is = a.blue_is;
    red_is = a.red_is;
    primary_is = a.primary_is;
    first_is = same_repairs rows others same primary.first row.first a.first_is;
    second_is = same_second rows others same primary.second row.second a.second_is;
  }

  -- and so is a line
  pub line_too : (rows others : Rows) → AreSameFor to rows others → (primary : Primary) (text : List ℕ)
      → IsLine (line_parts area island link_of rows source) to primary text
      → IsLine (line_parts area island link_of others source) to primary text
  line_too rows others same primary text a =
      record { row = a.row; row_is = row_too rows others same primary a.row a.row_is; spelled = a.spelled }

  -- exactly
  pub same_line : (rows others : Rows) → AreSameFor to rows others → (primary : Primary) (text : List ℕ)
      → IsLine (line_parts area island link_of rows source) to primary text
      ↔ IsLine (line_parts area island link_of others source) to primary text
  same_line rows others same primary text = (
    line_too rows others same primary text,
    line_too others rows (turned to rows others same) primary text,
  )
