-- The text on a router's repairs by order.
use Rattle.std.specs.Prelude.{◌≡◌, ◌++◌, ℕ, List, [], Some, codes, length, slice_get}
use Rattle.mrt_graph.specs.declared.cert.Color.{Color}
use Rattle.mrt_graph.specs.declared.cert.Color.TheVariants.{Blue, Red}
use Rattle.mrt_graph.specs.declared.link.Element.{Element}
use Rattle.mrt_graph.specs.declared.link.Element.TheVariants as elements
use Rattle.mrt_graph.specs.declared.node_id.NodeId.{NodeId}
use Rattle.mrt_graph.specs.DirectedLists.{DirectedLists}
use Rattle.mrt_graph.specs.Separates.{IsNeitherEnd}
use Rattle.text_parts.specs.Spelling.{node_text}
use Rattle.mrt_graph.specs.Topology.{Topology}
use Rattle.text_parts.specs.Parts.{AreParts, IsHeaded}
use Rattle.link_direction.specs.Directions.{Directions}
use Rattle.block_spf.specs.LeastPath.{HaveCommonBlockOfMoreLinks}
use Rattle.mrt_rows.specs.DirectedFrom.{IsDirectedFrom}
use Rattle.mrt_rows.specs.ListedDirections.{directions_of}
use Rattle.order_repair.specs.Failed.{LiesIn}
use Rattle.order_repair.specs.OrderChoice.{IsOrderChoice}

-- the first line: the router and the root
pub record IsHead (g : Topology) (root s : ℕ) (text : List ℕ) : Type 0 where
  pub router : NodeId
  pub router_is : slice_get g.ids s ≡ Some router
  pub root_id : NodeId
  pub root_is : slice_get g.ids root ≡ Some root_id
  pub spelled : text ≡ codes "order " ++ node_text router ++ codes " root " ++ node_text root_id ++ codes "\n"

-- the letter of a color
abbrev pub letter_of : Color → List ℕ
letter_of Blue = codes "b"
letter_of Red = codes "r"

-- a letter for a node or a link of the block of s and t: `-` for the two, else that of the color where it has failed.
-- Nothing for what is not of the block
pub data IsLetter (g : Topology) (root : ℕ) (w : Directions) (s t k h : ℕ) (x : Element) : List ℕ → Type 0 where
  NotOfIt : ¬ LiesIn g w k h x → IsLetter g root w s t k h x []
  AtEnd : LiesIn g w k h x → ¬ IsNeitherEnd x s t → IsLetter g root w s t k h x (codes "-")
  Colored : (color : Color) → LiesIn g w k h x → IsOrderChoice g root w s t x color
      → IsLetter g root w s t k h x (letter_of color)

-- the line on t, with which s has a block of more than one link in common: the letters of the block's nodes, by number
-- and so by ascending identifier, and those of its links, by number
pub record IsLine (g : Topology) (root : ℕ) (w : Directions) (s t : ℕ) (text : List ℕ) : Type 0 where
  pub block : ℕ
  pub head : ℕ
  pub share : HaveCommonBlockOfMoreLinks g w s t block head
  pub id : NodeId
  pub id_is : slice_get g.ids t ≡ Some id
  pub nodes : List ℕ
  pub nodes_are : AreParts (λ f. IsLetter g root w s t block head (elements.Node f)) (length g.ids) nodes
  pub links : List ℕ
  pub links_are : AreParts (λ e. IsLetter g root w s t block head (elements.Link e)) (length g.links) links
  pub spelled : text ≡ node_text id ++ codes " " ++ nodes ++ codes " " ++ links ++ codes "\n"

-- one line on a node with which s has such a block in common, and none on another one
pub data IsPartOn (g : Topology) (root : ℕ) (w : Directions) (s t : ℕ) : List ℕ → Type 0 where
  NoLine : ((k h : ℕ) → ¬ HaveCommonBlockOfMoreLinks g w s t k h) → IsPartOn g root w s t []
  Line : (text : List ℕ) → IsLine g root w s t text → IsPartOn g root w s t text

-- the first line, and the lines on all nodes, by number and so by ascending identifier
abbrev pub IsOrderText : Topology → ℕ → Directions → ℕ → List ℕ → Type 0
IsOrderText g root w s text = IsHeaded (IsHead g root s) (IsPartOn g root w s) (length g.ids) text

-- the text on s in the graph with a root: by what the directions of the graph from the root say
pub record IsTextFrom (g : Topology) (root s : ℕ) (text : List ℕ) : Type 0 where
  pub directed : DirectedLists
  pub from_root : IsDirectedFrom g root directed
  pub is : IsOrderText g root (directions_of g directed) s text
