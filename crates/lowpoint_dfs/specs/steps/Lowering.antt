-- Lowpoints on their way: the least of a node's number and of the offers of its first ends.
use Rattle.std.specs.Prelude.{◌≡◌, ◌≢◌, ◌<◌, ◌≤◌, ◌+◌, ℕ, List, Option, Some, None, length, slice_get, nat_lt, if◌then◌else◌}
use Rattle.mrt_graph.specs.declared.link.End.{End}
use Rattle.mrt_graph.specs.declared.tree.TreeNode.{TreeNode}
use Rattle.mrt_graph.specs.Topology.{Topology}
use Rattle.mrt_graph.specs.TreeFields.{search_number, parent_link, low_of, low_link}
use Rattle.lowpoint_dfs.specs.declared.lowpoints.Lowest.{Lowest}
use Rattle.lowpoint_dfs.specs.Lowpoint.{offer}
use Rattle.lowpoint_dfs.specs.Subtree.{parent_of}

-- the lower one of what is known and an offer over a link
abbrev pub lowered : Lowest → Option ℕ → ℕ → Lowest
lowered known None link = known
lowered known (Some n) link = if nat_lt n known.low then record { low = n; link = Some link } else known

-- where the least number comes from: from the node itself, or from the first of the first k ends that offers it
pub data IsLowFrom (tree : List TreeNode) (v : ℕ) (ends : List End) (k : ℕ) (lowest : Lowest) : Type 0 where
  Own : lowest.low ≡ search_number tree v → lowest.link ≡ parent_link tree v → IsLowFrom tree v ends k lowest
  Offered : (place : ℕ) (end : End) → place < k → slice_get ends place ≡ Some end → offer tree v end ≡ Some lowest.low
      → lowest.low < search_number tree v → lowest.link ≡ Some end.link
      → ((j : ℕ) (other : End) → j < place → slice_get ends j ≡ Some other → ¬ (offer tree v other ≡ Some lowest.low))
      → IsLowFrom tree v ends k lowest

-- the least of v's number and of what its first k ends offer
pub record IsLowest (tree : List TreeNode) (v : ℕ) (ends : List End) (k : ℕ) (lowest : Lowest) : Type 0 where
  pub own : lowest.low ≤ search_number tree v
  pub least : (j n : ℕ) (end : End) → j < k → slice_get ends j ≡ Some end → offer tree v end ≡ Some n → lowest.low ≤ n
  pub from : IsLowFrom tree v ends k lowest

-- nodes numbered by their places in a list, parents before their children
pub record AreNumbered (g : Topology) (tree : List TreeNode) (order : List ℕ) : Type 0 where
  pub places : (k v : ℕ) → slice_get order k ≡ Some v → search_number tree v ≡ k + 1
  pub within : (k v : ℕ) → slice_get order k ≡ Some v → v < length g.ids
  pub falls : (v parent : ℕ) → parent_of g tree v ≡ Some parent → search_number tree parent < search_number tree v

-- two trees with the same numbers and parent links
pub record AreAlike (tree other : List TreeNode) : Type 0 where
  pub numbers : (v : ℕ) → search_number other v ≡ search_number tree v
  pub parents : (v : ℕ) → parent_link other v ≡ parent_link tree v

-- a tree in which v was given the least of its number and of what its ends offer
pub record IsGiven (tree : List TreeNode) (v : ℕ) (ends : List End) (other : List TreeNode) : Type 0 where
  pub one_each : length other ≡ length tree
  pub alike : AreAlike tree other
  pub lows : (u : ℕ) → u ≢ v → low_of other u ≡ low_of tree u
  pub low_links : (u : ℕ) → u ≢ v → low_link other u ≡ low_link tree u
  pub lowest : Lowest
  pub is_lowest : IsLowest tree v ends (length ends) lowest
  pub low : low_of other v ≡ lowest.low
  pub link : low_link other v ≡ lowest.link
