-- Which color repairs the failure of each element of a primary.
use Rattle.std.specs.Prelude.{◌≡◌, ℕ, List, Option, Some, None, Contains, length, slice_get}
use Rattle.std.specs.Option.{option_map}
use Rattle.area_graph.specs.declared.area_types.Arc.{Arc}
use Rattle.mrt_graph.specs.declared.cert.Color.{Color}
use Rattle.mrt_graph.specs.declared.link.Element.{Element}
use Rattle.mrt_graph.specs.declared.link.Element.TheVariants as elements
use Rattle.mrt_graph.specs.declared.node_id.NodeId.{NodeId}
use Rattle.mrt_graph.specs.Alternate.{IsAlternate}
use Rattle.mrt_report.specs.LineParts.{LineParts}
use Rattle.mrt_report.specs.declared.row.ArcRepairs.{ArcRepairs}

-- the island link that a bond of the area is; none where its entry names no link. Without an entry there is no element, and
-- so no repair
abbrev pub IsLinkElement : List (Option ℕ) → ℕ → Option Element → Type 0
IsLinkElement link_of bond element = option_map (option_map (λ e. elements.Link e)) (slice_get link_of bond) ≡ Some element

-- the island node that has this identifier; none where the node is outside the island
pub data IsNodeElement (ids : List NodeId) (id : NodeId) : Option Element → Type 0 where
  Inside : (n : ℕ) → slice_get ids n ≡ Some id → IsNodeElement ids id (Some (elements.Node n))
  Outside : ¬ Contains ids id → IsNodeElement ids id None

-- the router's alternate for a node of the island, where the element has failed
abbrev pub IsRepair : LineParts → ℕ → Option Element → Option Color → Type 0
IsRepair parts to failed answer =
    IsAlternate parts.island.links (length parts.island.ids) parts.rows parts.source to failed answer

-- what an arc leads over in the island: the link that its bond is, and the node that it leads to
pub record AreArcElements (parts : LineParts) (number : ℕ) (link node : Option Element) : Type 0 where
  pub arc : Arc
  pub there : slice_get parts.area.arcs number ≡ Some arc
  pub link_is : IsLinkElement parts.link_of arc.bond link
  pub far : NodeId
  pub far_is : slice_get parts.area.ids arc.to ≡ Some far
  pub node_is : IsNodeElement parts.island.ids far node

-- of an arc: which color repairs the failure of its bond, and of the node that it leads to
pub record AreArcRepairs (parts : LineParts) (to number : ℕ) (repairs : ArcRepairs) : Type 0 where
  pub link : Option Element
  pub node : Option Element
  pub elements_are : AreArcElements parts number link node
  pub link_repair_is : IsRepair parts to link repairs.link
  pub node_repair_is : IsRepair parts to node repairs.node

-- of an arc that may not be there
abbrev pub AreSecondRepairs : LineParts → ℕ → Option ℕ → Option ArcRepairs → Type 0
AreSecondRepairs parts to None None = Unit {0}
AreSecondRepairs parts to (Some number) (Some repairs) = AreArcRepairs parts to number repairs
AreSecondRepairs parts to _ _ = ⊥
