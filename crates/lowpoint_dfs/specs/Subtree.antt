-- Which nodes are below which in a search tree.
use Rattle.std.specs.Prelude.{◌≡◌, ◌≢◌, ◌<◌, ℕ, List, Option, Some}
use Rattle.std.specs.Option.{option_and_then}
use Rattle.mrt_graph.specs.declared.link.End.{End}
use Rattle.mrt_graph.specs.declared.tree.TreeNode.{TreeNode}
use Rattle.mrt_graph.specs.Leads.{leads}
use Rattle.mrt_graph.specs.Topology.{Topology}
use Rattle.mrt_graph.specs.TreeFields.{search_number, parent_link}
use Rattle.mrt_graph.specs.FirstEnd.{IsFirstEnd}

-- a node's parent: the other node of its parent link
abbrev pub parent_of : Topology → List TreeNode → ℕ → Option ℕ
parent_of g tree v = option_and_then (λ e. leads g.links e v) (parent_link tree v)

-- a node with a parent: the parent has a lower number, and of its ends to the node the first one is on the parent link
pub record HasParent (g : Topology) (tree : List TreeNode) (v : ℕ) : Type 0 where
  pub parent : ℕ
  pub is : parent_of g tree v ≡ Some parent
  pub lower : search_number tree parent < search_number tree v
  pub end : End
  pub first : IsFirstEnd g (λ end. end.to ≡ v) parent end
  pub over : parent_link tree v ≡ Some end.link

-- v is in the subtree of u: it is u, or its parent is in the subtree of u
pub data IsInSubtree (g : Topology) (tree : List TreeNode) (u : ℕ) : ℕ → Type 0 where
  Itself : IsInSubtree g tree u u
  Below : (v parent : ℕ) → parent_of g tree v ≡ Some parent → IsInSubtree g tree u parent → IsInSubtree g tree u v

-- a link with one end in v's subtree, other than v's parent link, reaches number n
pub record IsReachedFrom (g : Topology) (tree : List TreeNode) (v n : ℕ) : Type 0 where
  pub link : ℕ
  pub from : ℕ
  pub to : ℕ
  pub inside : IsInSubtree g tree v from
  pub leads_on : leads g.links link from ≡ Some to
  pub other : parent_link tree v ≢ Some link
  pub number : n ≡ search_number tree to
