-- A table's row on one destination.
use Rattle.std.specs.Prelude.{◌≡◌, ◌==◌, ℕ, List, Some, slice_get}
use Rattle.std.specs.List.{find}
use Rattle.area_graph.specs.Parts.{AreaParts}
use Rattle.area_graph.specs.declared.area_types.Arc.{Arc}
use Rattle.mrt_graph.specs.declared.cert.Row.{Row}
use Rattle.mrt_graph.specs.declared.link.End.{End}
use Rattle.mrt_graph.specs.Topology.{Topology}
use Rattle.primary_alt.specs.declared.shortest.Primary.{Primary}
use Rattle.mrt_report.specs.LineParts.{LineParts}
use Rattle.mrt_report.specs.Repairs.{AreArcRepairs, AreSecondRepairs}
use Rattle.mrt_report.specs.declared.row.HopTo.{HopTo}
use Rattle.mrt_report.specs.declared.row.TableRow.{TableRow}

-- a node's end on a link
pub record IsEndOn (g : Topology) (s link : ℕ) (end : End) : Type 0 where
  pub ends : List End
  pub ends_are : slice_get g.ends s ≡ Some ends
  pub is : find (λ end. end.link == link) ends ≡ Some end

-- the hop of a node over an island link: the node that its end on this link leads to, and the end's link data
pub record IsLinkHop (g : Topology) (s link : ℕ) (hop : HopTo) : Type 0 where
  pub end : End
  pub end_is : IsEndOn g s link end
  pub far_is : slice_get g.ids end.to ≡ Some hop.far
  pub data_is : hop.link_data ≡ end.link_data

-- the hop over an arc: the node that it leads to, and its link data
pub record IsArcHop (area : AreaParts) (number : ℕ) (hop : HopTo) : Type 0 where
  pub arc : Arc
  pub arc_is : slice_get area.arcs number ≡ Some arc
  pub far_is : slice_get area.ids arc.to ≡ Some hop.far
  pub data_is : hop.link_data ≡ arc.link_data

-- the row on a destination, a node of the island, with the router's primary for it: the hops of both colors by the router's
-- row, that of the primary, and what repairs the failure of each of its elements
pub record IsRow (parts : LineParts) (to : ℕ) (primary : Primary) (row : TableRow) : Type 0 where
  pub id_is : slice_get parts.island.ids to ≡ Some row.id
  pub links : Row
  pub links_are : parts.rows parts.source to ≡ Some links
  pub tag_is : row.tag ≡ links.tag
  pub blue_is : IsLinkHop parts.island parts.source links.blue row.blue
  pub red_is : IsLinkHop parts.island parts.source links.red row.red
  pub primary_is : IsArcHop parts.area primary.first row.primary
  pub first_is : AreArcRepairs parts to primary.first row.first
  pub second_is : AreSecondRepairs parts to primary.second row.second
