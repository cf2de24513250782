-- The order of the ears' nodes (RFC 7811, section 5.5).
use Rattle.std.specs.Prelude.{◌≡◌, ◌++◌, ℕ, List, [], ◌∷◌}
use Rattle.mrt_graph.specs.declared.tree.TreeNode.{TreeNode}
use Rattle.mrt_graph.specs.Topology.{Topology}
use Rattle.lowpoint_dfs.specs.SearchOrder.{IsDone}
use Rattle.gadag_ears.specs.Ear.{Ear, IsNextEar, new_nodes}

-- the lists that come about, each cut at the node whose turn it is: the nodes whose turn is over, this node, the nodes
-- whose turn is to come; and the ears so far, the latest first. It begins as the root alone. The new nodes of an ear
-- come directly after the node whose turn it is. A turn is over when no end of the node leads outside the list
pub data IsEarOrder (g : Topology) (root : ℕ) (tree : List TreeNode) : List ℕ → ℕ → List ℕ → List Ear → Type 0 where
  Begun : IsEarOrder g root tree [] root [] []
  Grown : (over : List ℕ) (x : ℕ) (later : List ℕ) (ears : List Ear) (ear : Ear)
      → IsEarOrder g root tree over x later ears → IsNextEar g tree (over ++ x ∷ later) x ear
      → IsEarOrder g root tree over x (new_nodes ear ++ later) (ear ∷ ears)
  Turned : (over : List ℕ) (x y : ℕ) (later : List ℕ) (ears : List Ear) → IsEarOrder g root tree over x (y ∷ later) ears
      → IsDone g (over ++ x ∷ y ∷ later) x → IsEarOrder g root tree (over ++ x ∷ []) y later ears

-- the list when all turns are over, and all ears
pub record AreEars (g : Topology) (root : ℕ) (tree : List TreeNode) (order : List ℕ) (ears : List Ear) : Type 0 where
  pub before : List ℕ
  pub last : ℕ
  pub ordered : IsEarOrder g root tree before last [] ears
  pub whole : order ≡ before ++ last ∷ []
  pub ended : IsDone g order last
