-- The order of a depth-first search: in which order it finds the nodes, and over which links (RFC 7811, sections 4.3 and
-- 5.5).
use Rattle.std.specs.Prelude.{◌≡◌, ◌<◌, ◌+◌, ◌++◌, ℕ, List, [], ◌∷◌, Some, None, Contains, length, slice_get}
use Rattle.mrt_graph.specs.declared.link.End.{End}
use Rattle.mrt_graph.specs.declared.tree.TreeNode.{TreeNode}
use Rattle.mrt_graph.specs.Topology.{Topology}
use Rattle.mrt_graph.specs.TreeFields.{search_number, parent_link}
use Rattle.mrt_graph.specs.FirstEnd.{IsFirstEnd}

-- no end of node v leads to a node outside the list
pub record IsDone (g : Topology) (listed : List ℕ) (v : ℕ) : Type 0 where
  pub ends : List End
  pub list : slice_get g.ends v ≡ Some ends
  pub all_inside : (k : ℕ) (end : End) → slice_get ends k ≡ Some end → Contains listed end.to

-- what a search that has listed these nodes finds next: at the latest of them with an end to a node outside the list,
-- by its first such end, that end's node over that end's link
pub record IsFoundNext (g : Topology) (listed : List ℕ) (node link : ℕ) : Type 0 where
  pub place : ℕ
  pub at : ℕ
  pub there : slice_get listed place ≡ Some at
  pub latest : (later v : ℕ) → place < later → slice_get listed later ≡ Some v → IsDone g listed v
  pub end : End
  pub first : IsFirstEnd g (λ end. ¬ Contains listed end.to) at end
  pub over : end.link ≡ link
  pub to : end.to ≡ node

-- the lists that a search from the root makes: the root alone, then each list with the node that is found next at its
-- end. In the tree a node's number is its place in the list, counted from 1, and its parent link the one over which
-- it was found; the root has none
pub data IsSearchOrder (g : Topology) (root : ℕ) (tree : List TreeNode) : List ℕ → Type 0 where
  Begun : search_number tree root ≡ 1 → parent_link tree root ≡ None → IsSearchOrder g root tree (root ∷ [])
  Found : (listed : List ℕ) (node link : ℕ) → IsSearchOrder g root tree listed → IsFoundNext g listed node link
      → search_number tree node ≡ length listed + 1 → parent_link tree node ≡ Some link
      → IsSearchOrder g root tree (listed ++ node ∷ [])
