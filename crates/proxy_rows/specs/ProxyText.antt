-- The text on a prefix that is attached to two routers.
use Rattle.std.specs.Prelude.{◌≡◌, ◌==◌, ◌++◌, ℕ, List, Some, codes, find, length, slice_get}
use Rattle.mrt_graph.specs.declared.link.End.{End}
use Rattle.mrt_graph.specs.declared.node_id.NodeId.{NodeId}
use Rattle.mrt_graph.specs.Certificate.{Certificate}
use Rattle.text_parts.specs.Spelling.{node_text}
use Rattle.mrt_graph.specs.Topology.{Topology}
use Rattle.text_parts.specs.Hops.{hop_text}
use Rattle.text_parts.specs.Parts.{IsHeaded}
use Rattle.proxy_rows.specs.declared.proxy_row.Out.{Out}
use Rattle.proxy_rows.specs.declared.proxy_row.Out.TheVariants.{Attached, Link}
use Rattle.proxy_rows.specs.declared.proxy_row.ProxyRow.{ProxyRow}
use Rattle.proxy_rows.specs.ProxyRows.{AreProxyRows}

-- the first line: the two routers, as they were given, and the root
pub record IsHead (g : Topology) (a b root : ℕ) (text : List ℕ) : Type 0 where
  pub one : NodeId
  pub one_is : slice_get g.ids a ≡ Some one
  pub other : NodeId
  pub other_is : slice_get g.ids b ≡ Some other
  pub top : NodeId
  pub top_is : slice_get g.ids root ≡ Some top
  pub spelled : text
      ≡ codes "proxy " ++ node_text one ++ codes " " ++ node_text other ++ codes " root " ++ node_text top ++ codes "\n"

-- the end of s on link e
pub record IsEndOn (g : Topology) (s e : ℕ) (end : End) : Type 0 where
  pub ends : List End
  pub list : slice_get g.ends s ≡ Some ends
  pub is : find (λ end. end.link == e) ends ≡ Some end

-- the hop over link e: its far node, and the link data of its end at s as an address
pub record IsHop (g : Topology) (s e : ℕ) (text : List ℕ) : Type 0 where
  pub end : End
  pub end_is : IsEndOn g s e end
  pub far : NodeId
  pub far_is : slice_get g.ids end.to ≡ Some far
  pub spelled : text ≡ hop_text far end.link_data

-- where s sends: that hop, or that the prefix is attached to s
abbrev pub IsOutText : Topology → ℕ → Out → List ℕ → Type 0
IsOutText g s (Link e) text = IsHop g s e text
IsOutText g s Attached text = text ≡ codes "attached"

-- the line on node s: where it sends on each color
pub record IsLine (g : Topology) (entries : List ProxyRow) (s : ℕ) (text : List ℕ) : Type 0 where
  pub id : NodeId
  pub id_is : slice_get g.ids s ≡ Some id
  pub row : ProxyRow
  pub row_is : slice_get entries s ≡ Some row
  pub blue : List ℕ
  pub blue_is : IsOutText g s row.blue blue
  pub red : List ℕ
  pub red_is : IsOutText g s row.red red
  pub spelled : text ≡ node_text id ++ codes " blue " ++ blue ++ codes " red " ++ red ++ codes "\n"

-- the first line, and the lines on all nodes, by number, and so by ascending identifier; by the proxy rows of a and b
pub record IsProxyText (g : Topology) (root : ℕ) (c : Certificate) (a b : ℕ) (text : List ℕ) : Type 0 where
  pub entries : List ProxyRow
  pub entries_are : AreProxyRows g c a b entries
  pub headed : IsHeaded (IsHead g a b root) (IsLine g entries) (length g.ids) text
