-- What a search tree says of a node (RFC 7811, section 4.3). A node that is not there has number 0, which is no node's number.
use Rattle.std.specs.Prelude.{ℕ, List, Option, slice_get}
use Rattle.std.specs.Option.{option_and_then, option_map_or}
use Rattle.mrt_graph.specs.declared.tree.TreeNode.{TreeNode}

-- a node's number in the order of the search
abbrev pub search_number : List TreeNode → ℕ → ℕ
search_number tree v = option_map_or (λ node. node.number) (slice_get tree v) 0

-- the link over which a node was found; the root has none
abbrev pub parent_link : List TreeNode → ℕ → Option ℕ
parent_link tree v = option_and_then (λ node. node.parent) (slice_get tree v)

-- a node's lowpoint
abbrev pub low_of : List TreeNode → ℕ → ℕ
low_of tree v = option_map_or (λ node. node.low) (slice_get tree v) 0

-- the link of a node's lowpoint: that of the end that offers it where it is below the node's number, else the parent link
abbrev pub low_link : List TreeNode → ℕ → Option ℕ
low_link tree v = option_and_then (λ node. node.low_link) (slice_get tree v)
