-- The directions of a graph from a root.
use Rattle.std.specs.Prelude.{ℕ, List}
use Rattle.mrt_graph.specs.declared.tree.TreeNode.{TreeNode}
use Rattle.mrt_graph.specs.DirectedLists.{DirectedLists}
use Rattle.mrt_graph.specs.GadagLists.{GadagLists}
use Rattle.mrt_graph.specs.Topology.{Topology}
use Rattle.lowpoint_dfs.specs.SearchTree.{IsSearchTree}
use Rattle.gadag_ears.specs.Gadag.{IsGadag}
use Rattle.link_direction.specs.Directed.{IsDirected}

-- the graph has these orders and directions: by its search tree and the ears of this tree
pub record IsDirectedFrom (g : Topology) (root : ℕ) (d : DirectedLists) : Type 0 where
  pub tree : List TreeNode
  pub searched : IsSearchTree g root tree
  pub gadag : GadagLists
  pub by_ears : IsGadag g root tree gadag
  pub in_order : IsDirected g root gadag d
