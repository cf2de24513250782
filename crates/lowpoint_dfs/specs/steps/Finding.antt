-- A search on its way: nodes that it has not found have number 0.
use Rattle.std.specs.Prelude.{◌≡◌, ◌<◌, ◌≤◌, ◌==◌, ◌+◌, ◌*◌, ℕ, List, Option, Some, Contains, length, slice_get, slice_index_or, count_by}
use Rattle.mrt_graph.specs.declared.link.End.{End}
use Rattle.mrt_graph.specs.declared.tree.TreeNode.{TreeNode}
use Rattle.mrt_graph.specs.Topology.{Topology}
use Rattle.mrt_graph.specs.TreeFields.{search_number}
use Rattle.lowpoint_dfs.specs.SearchOrder.{IsDone, IsSearchOrder}

-- a node with its number and its parent link; its lowpoint is its own number at first
abbrev pub found_node : ℕ → Option ℕ → TreeNode
found_node number link = record { number = number; parent = link; low = number; low_link = link }

-- how many nodes are to be found
abbrev pub unfound : List TreeNode → ℕ
unfound nodes = count_by (λ node. node.number == 0) nodes

-- how much is left to do for a search that is at node `here`: nodes to find, and the way back to the root
abbrev pub left_at : List TreeNode → ℕ → ℕ
left_at nodes here = unfound nodes * (length nodes + 1) + search_number nodes here

-- all ends from one place to another lead to found nodes
abbrev pub LeadToFound : List TreeNode → List End → ℕ → ℕ → Type 0
LeadToFound nodes ends from to =
    (k : ℕ) (end : End) → from ≤ k → k < to → slice_get ends k ≡ Some end → 1 ≤ search_number nodes end.to

-- a search that is at node `here`: all that it has listed after `here` is done, and of each node the ends that it has
-- passed lead to found nodes
pub record IsSearching (g : Topology) (root : ℕ) (nodes : List TreeNode) (order passed : List ℕ) (here : ℕ) : Type 0 where
  pub searched : IsSearchOrder g root nodes order
  pub one_each : length nodes ≡ length g.ids
  pub one_place_each : length passed ≡ length g.ids
  pub left : unfound nodes + length order ≡ length nodes
  pub listed : (v : ℕ) → 1 ≤ search_number nodes v → Contains order v
  pub passed_ends : (v : ℕ) (ends : List End) → slice_get g.ends v ≡ Some ends
      → LeadToFound nodes ends 0 (slice_index_or passed v 0)
  pub here_listed : Contains order here
  pub later_done : (k v : ℕ) → search_number nodes here ≤ k → slice_get order k ≡ Some v → IsDone g order v

-- a search that has found all that it can
pub record IsFinished (g : Topology) (root : ℕ) (nodes : List TreeNode) (order : List ℕ) : Type 0 where
  pub searched : IsSearchOrder g root nodes order
  pub one_each : length nodes ≡ length g.ids
  pub ended : (k v : ℕ) → slice_get order k ≡ Some v → IsDone g order v
