-- The depth-first search of a graph from its root, with lowpoints.
use Rattle.std.specs.Prelude.{◌≡◌, ◌<◌, ℕ, List, Some, length, slice_get}
use Rattle.mrt_graph.specs.declared.tree.TreeNode.{TreeNode}
use Rattle.mrt_graph.specs.Topology.{Topology}
use Rattle.lowpoint_dfs.specs.Lowpoint.{HasLowpoint}
use Rattle.lowpoint_dfs.specs.SearchOrder.{IsDone, IsSearchOrder}

-- the search tree of a graph: the search has gone on until no listed node has an end to a node outside the list, and
-- each node has its lowpoint
pub record IsSearchTree (g : Topology) (root : ℕ) (tree : List TreeNode) : Type 0 where
  pub order : List ℕ
  pub searched : IsSearchOrder g root tree order
  pub ended : (k v : ℕ) → slice_get order k ≡ Some v → IsDone g order v
  pub one_each : length tree ≡ length g.ids
  pub lowpoints : (v : ℕ) → v < length g.ids → HasLowpoint g tree v
