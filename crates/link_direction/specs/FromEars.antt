-- What the ears give.
use Rattle.std.specs.Prelude.{ℕ, List}
use Rattle.mrt_graph.specs.declared.tree.TreeNode.{TreeNode}
use Rattle.mrt_graph.specs.GadagLists.{GadagLists}
use Rattle.mrt_graph.specs.Topology.{Topology}
use Rattle.lowpoint_dfs.specs.SearchTree.{IsSearchTree}
use Rattle.gadag_ears.specs.Gadag.{IsGadag}

-- the GADAG is that of the graph's search tree from this root
pub record IsFromEars (g : Topology) (root : ℕ) (gadag : GadagLists) : Type 0 where
  pub tree : List TreeNode
  pub search : IsSearchTree g root tree
  pub is_gadag : IsGadag g root tree gadag
