-- Lowpoints (RFC 7811, section 4.3) and their links (section 5.5).
use Rattle.std.specs.Prelude.{◌≡◌, ◌<◌, ◌≤◌, ◌⊎◌, ◌==◌, ℕ, Bool, false, List, Option, Some, None, slice_get, if◌then◌else◌}
use Rattle.std.specs.Option.{option_map_or}
use Rattle.mrt_graph.specs.declared.link.End.{End}
use Rattle.mrt_graph.specs.declared.tree.TreeNode.{TreeNode}
use Rattle.mrt_graph.specs.Topology.{Topology}
use Rattle.mrt_graph.specs.TreeFields.{search_number, parent_link, low_of, low_link}
use Rattle.mrt_graph.specs.FirstEnd.{IsFirstEnd}

-- n is the least of some numbers
pub record IsLeast (IsOneOf : ℕ → Type 0) (n : ℕ) : Type 0 where
  pub one_of_them : IsOneOf n
  pub least : (m : ℕ) → IsOneOf m → n ≤ m

-- whether link e is node v's parent link
abbrev pub is_parent_link : List TreeNode → ℕ → ℕ → Bool
is_parent_link tree v e = option_map_or (λ parent. parent == e) (parent_link tree v) false

-- what an end offers its node v: nothing over v's parent link; to a child, over the child's parent link, the child's
-- lowpoint; else the number of the node that it leads to
abbrev pub offer : List TreeNode → ℕ → End → Option ℕ
offer tree v end =
    if is_parent_link tree v end.link then None
    else (if is_parent_link tree end.to end.link then Some (low_of tree end.to) else Some (search_number tree end.to))

-- an end of node v offers n
pub record IsOffered (g : Topology) (tree : List TreeNode) (v n : ℕ) : Type 0 where
  pub ends : List End
  pub list : slice_get g.ends v ≡ Some ends
  pub place : ℕ
  pub end : End
  pub there : slice_get ends place ≡ Some end
  pub offers : offer tree v end ≡ Some n

-- the link of a node's lowpoint: that of the first end that offers it, if it is below the node's number; else the
-- node's parent link, so that the root has none
pub data IsLowLink (g : Topology) (tree : List TreeNode) (v : ℕ) : Type 0 where
  ByOffer : (end : End) → low_of tree v < search_number tree v
      → IsFirstEnd g (λ end. offer tree v end ≡ Some (low_of tree v)) v end → low_link tree v ≡ Some end.link
      → IsLowLink g tree v
  ByParent : low_of tree v ≡ search_number tree v → low_link tree v ≡ parent_link tree v → IsLowLink g tree v

-- the lowpoint of node v, the least of its number and of all offers, and its link
pub record HasLowpoint (g : Topology) (tree : List TreeNode) (v : ℕ) : Type 0 where
  pub low : IsLeast (λ n. (n ≡ search_number tree v) ⊎ IsOffered g tree v n) (low_of tree v)
  pub link : IsLowLink g tree v
