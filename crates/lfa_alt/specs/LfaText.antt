-- The text on a router's loop-free alternates.
use Rattle.std.specs.Prelude.{ℕ, Bool, true, false, List, codes, ◌≡◌, ◌++◌, [], Option, Some, None, decimal, length, slice_get}
use Rattle.area_graph.specs.declared.area_types.Arc.{Arc}
use Rattle.area_graph.specs.Parts.{AreaParts}
use Rattle.mrt_graph.specs.declared.node_id.NodeId.{NodeId}
use Rattle.text_parts.specs.Spelling.{node_text}
use Rattle.text_parts.specs.Hops.{hop_text}
use Rattle.text_parts.specs.Parts.{IsHeaded}
use Rattle.primary_alt.specs.declared.shortest.Primary.{Primary}
use Rattle.primary_alt.specs.Primaries.{IsPrimary}
use Rattle.lfa_alt.specs.declared.alternate.Lfa.{Lfa}
use Rattle.lfa_alt.specs.LoopFree.{IsLfa}

-- whether an alternate protects the primary's next: it does; or that is not promised
abbrev pub kind_text : Bool → List ℕ
kind_text true = codes "node"
kind_text false = codes "link"

-- the first line: the router, and how many nodes the area has
pub record IsHead (area : AreaParts) (s : ℕ) (text : List ℕ) : Type 0 where
  pub router : NodeId
  pub router_is : slice_get area.ids s ≡ Some router
  pub spelled : text ≡ codes "lfa " ++ node_text router ++ codes " nodes " ++ decimal (length area.ids) ++ codes "\n"

-- the hop over an arc: the node that it leads to, and its link data
pub record IsArcHop (area : AreaParts) (number : ℕ) (text : List ℕ) : Type 0 where
  pub arc : Arc
  pub arc_is : slice_get area.arcs number ≡ Some arc
  pub far : NodeId
  pub far_is : slice_get area.ids arc.to ≡ Some far
  pub spelled : text ≡ hop_text far arc.link_data

-- an alternate: the hop over its first arc, its next, and what it protects
pub record IsLfaHop (area : AreaParts) (lfa : Lfa) (text : List ℕ) : Type 0 where
  pub hop : List ℕ
  pub hop_is : IsArcHop area lfa.first hop
  pub next : NodeId
  pub next_is : slice_get area.ids lfa.next ≡ Some next
  pub spelled : text ≡ hop ++ codes " next " ++ node_text next ++ codes " " ++ kind_text lfa.node

-- or that there is none
abbrev pub AreLfaWords : AreaParts → Option Lfa → List ℕ → Type 0
AreLfaWords area None text = text ≡ codes "none"
AreLfaWords area (Some lfa) text = IsLfaHop area lfa text

-- the line on a destination with a primary: the hop over the primary's first arc, and the alternate
pub record IsLine (area : AreaParts) (s t : ℕ) (primary : Primary) (text : List ℕ) : Type 0 where
  pub id : NodeId
  pub id_is : slice_get area.ids t ≡ Some id
  pub hop : List ℕ
  pub hop_is : IsArcHop area primary.first hop
  pub lfa : Option Lfa
  pub lfa_is : IsLfa area s t lfa
  pub words : List ℕ
  pub words_are : AreLfaWords area lfa words
  pub spelled : text ≡ node_text id ++ codes " primary " ++ hop ++ codes " lfa " ++ words ++ codes "\n"

-- one line on a destination with a primary, and none on one without
pub data IsPartOn (area : AreaParts) (s t : ℕ) : List ℕ → Type 0 where
  NoLine : IsPrimary area s t None → IsPartOn area s t []
  Line : (primary : Primary) (text : List ℕ) → IsPrimary area s t (Some primary) → IsLine area s t primary text
      → IsPartOn area s t text

-- the first line, and the lines on all nodes, by number, and so by ascending identifier
abbrev pub IsLfaText : AreaParts → ℕ → List ℕ → Type 0
IsLfaText area s text = IsHeaded (IsHead area s) (IsPartOn area s) (length area.ids) text
