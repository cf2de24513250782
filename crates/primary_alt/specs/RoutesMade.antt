-- Routes of an area and of an island of it.
use Rattle.std.specs.Prelude.{◌≡◌, ◌<◌, ℕ, List, Option, Some, None, Contains, length, slice_get}
use Rattle.area_graph.specs.declared.area_types.Arc.{Arc}
use Rattle.area_graph.specs.Fits.{Fits}
use Rattle.area_graph.specs.Parts.{AreaParts}
use Rattle.mrt_graph.specs.GraphInvariant.{IsNetwork}
use Rattle.mrt_graph.specs.Topology.{Topology}
use Rattle.mrt_graph.specs.declared.node_id.NodeId.{NodeId}
use Rattle.primary_alt.specs.declared.shortest.Primary.{Primary}
use Rattle.primary_alt.specs.ArcWalk.{ArcWalk}
use Rattle.primary_alt.specs.Primaries.{IsPrimary}
use Rattle.primary_alt.specs.RouteLists.{HasColumn, RouteLists, primary_at}
use Rattle.primary_alt.specs.Routers.{IsRouter}

-- the node of that identifier among these; none where no node has it
abbrev pub IsNodeOf : List NodeId → NodeId → Option ℕ → Type 0
IsNodeOf ids id None = ¬ Contains ids id
IsNodeOf ids id (Some n) = slice_get ids n ≡ Some id

-- of each node of the area the island node of its identifier, if there is one
pub record AreIslandNodes (ids island : List NodeId) (nodes : List (Option ℕ)) : Type 0 where
  pub one_each : length nodes ≡ length ids
  pub same : (s : ℕ) (id : NodeId) (node : Option ℕ) → slice_get ids s ≡ Some id → slice_get nodes s ≡ Some node
      → IsNodeOf island id node

-- of each island node the node of the area that has its identifier
pub record AreAreaNodes (ids island : List NodeId) (spots : List ℕ) : Type 0 where
  pub one_each : length spots ≡ length island
  pub same : (n s : ℕ) (id : NodeId) → slice_get island n ≡ Some id → slice_get spots n ≡ Some s
      → slice_get ids s ≡ Some id

-- of each of that many links the bond that names it
pub record AreBondsOf (count : ℕ) (links : List (Option ℕ)) (bonds : List ℕ) : Type 0 where
  pub one_each : length bonds ≡ count
  pub names : (e b : ℕ) → slice_get bonds e ≡ Some b → slice_get links b ≡ Some (Some e)

-- of each node of the area a place for its column; a column has an entry of each node: of a router its primary, of a
-- network none
pub record AreColumns (area : AreaParts) (routes : RouteLists) : Type 0 where
  pub a_place_each : length routes.primaries ≡ length area.ids
  pub an_entry_each : (t : ℕ) (column : List (Option Primary)) → slice_get routes.primaries t ≡ Some (Some column)
      → length column ≡ length area.ids
  pub routers : (x t : ℕ) → IsRouter area.ids x → HasColumn routes t → IsPrimary area x t (primary_at routes x t)
  pub networks : (x t : ℕ) → IsNetwork area.ids x → primary_at routes x t ≡ None

-- routes are made with this area and this graph: the primaries are the area's; the graph fits the area by the list of
-- links; nodes of both that belong together have one identifier; the bond of a link is the one that names it
pub record AreMade (area : AreaParts) (graph : Topology) (routes : RouteLists) : Type 0 where
  pub primaries : AreColumns area routes
  pub fits : Fits area graph routes.links
  pub nodes : AreIslandNodes area.ids graph.ids routes.nodes
  pub spots : AreAreaNodes area.ids graph.ids routes.spots
  pub bonds : AreBondsOf (length graph.links) routes.links routes.bonds

-- routes are made so, and each node of the area has a column
pub record AreMadeWith (area : AreaParts) (graph : Topology) (routes : RouteLists) : Type 0 where
  pub made : AreMade area graph routes
  pub all : (t : ℕ) → t < length area.ids → HasColumn routes t

-- why routes have no primary of x for t: x is t; x is a network; no walk leads there; there is no column for t
pub data HasNoPrimary (area : AreaParts) (routes : RouteLists) (x t : ℕ) : Type 0 where
  IsThere : x ≡ t → HasNoPrimary area routes x t
  AtNetwork : IsNetwork area.ids x → HasNoPrimary area routes x t
  NoWay : ((walk : List Arc) → ¬ ArcWalk area.arcs x walk t) → HasNoPrimary area routes x t
  NoColumn : ¬ HasColumn routes t → HasNoPrimary area routes x t
