-- Rules three to six: heads, blocks, and the links of blocks.
use Rattle.std.specs.Prelude.{◌≡◌, ◌==◌, ◌<◌, ◌&&◌, ◌||◌, ℕ, Bool, true, false, List, Some, not, nat_le, length, slice_get, filter, if◌then◌else◌}
use Rattle.std.specs.List.{list_all}
use Rattle.std.specs.Option.{option_and_then, option_map_or}
use Rattle.mrt_graph.specs.declared.cert.CertLink.{CertLink}
use Rattle.mrt_graph.specs.BothThere.{are_different, are_equal, both, is_less}
use Rattle.mrt_graph.specs.Certificate.{Certificate}
use Rattle.mrt_graph.specs.CertFields.{order_of, head_of, block_of, links_of, members}
use Rattle.mrt_graph.specs.Places.{Each, IsFirst}
use Rattle.mrt_graph.specs.Related.{is_common_block}
use Rattle.mrt_graph.specs.Roles.{is_sole, is_closing}

-- the root's head and block are the root; another node's head has a smaller order, and its block is not the root
abbrev pub placed : Certificate → ℕ → ℕ → Bool
placed c root a =
    if a == root then are_equal (head_of c a) (Some root) && are_equal (block_of c a) (Some root)
    else is_less (option_and_then (order_of c) (head_of c a)) (order_of c a) && are_different (block_of c a) (Some root)

-- nodes of one block have one head
abbrev pub one_head : Certificate → ℕ → ℕ → Bool
one_head c a b = are_different (block_of c a) (block_of c b) || are_equal (head_of c a) (head_of c b)

-- the third rule, at a node: it is placed, and all nodes of its block have its head
pub record HeadHoldsAt (c : Certificate) (root a : ℕ) : Type 0 where
  pub alone : placed c root a ≡ true
  pub beside : Each (one_head c a) (length c.nodes)

-- a fault of node a alone, and 0; else the least node of its block with another head
pub data HeadFails (c : Certificate) (root a : ℕ) : ℕ → Type 0 where
  Alone : placed c root a ≡ false → HeadFails c root a 0
  Beside : (b : ℕ) → placed c root a ≡ true → IsFirst (one_head c a) (length c.nodes) b → HeadFails c root a b

-- the third rule
abbrev pub HeadsHold : Certificate → ℕ → Type 0
HeadsHold c root = (a : ℕ) → a < length c.nodes → HeadHoldsAt c root a

-- its faults: at the least node, and what is said there
pub record HeadFault (c : Certificate) (root a b : ℕ) : Type 0 where
  pub within : a < length c.nodes
  pub fails : HeadFails c root a b
  pub before : (x : ℕ) → x < a → HeadHoldsAt c root x

-- the fourth rule, at a link: its block is the common block of its two nodes
abbrev pub link_placed : Certificate → ℕ → Bool
link_placed c e = option_map_or (λ link. is_common_block c link.a link.b (Some link.block)) (slice_get c.links e) false

-- a block with exactly one link has one node alone, and the link's role is sole
abbrev pub lone_if_one_link : Certificate → ℕ → Bool
lone_if_one_link c k =
    not (length (links_of c k) == 1)
    || ((length (members c k) == 1) && list_all (λ link. is_sole link.role) (links_of c k))

-- the fifth rule, at a node: unless it is the root, that is so of its block
abbrev pub lone_block : Certificate → ℕ → ℕ → Bool
lone_block c root a = (a == root) || option_map_or (lone_if_one_link c) (block_of c a) false

-- x is the node of greatest order in block k
abbrev pub is_greatest_of : Certificate → ℕ → ℕ → Bool
is_greatest_of c k x =
    option_map_or
    (λ node. (node.block == k) && list_all (λ member. nat_le member.order node.order) (members c k))
    (slice_get c.nodes x) false

-- a link joins a node and the node of greatest order in block k
abbrev pub joins_greatest : Certificate → ℕ → ℕ → CertLink → Bool
joins_greatest c head k link =
    ((link.a == head) && is_greatest_of c k link.b) || ((link.b == head) && is_greatest_of c k link.a)

-- the closing links of a block
abbrev pub closings : Certificate → ℕ → List CertLink
closings c k = filter (λ link. (link.block == k) && is_closing link.role) c.links

-- of a block with another number of links none is sole, exactly one is closing, and it joins the block's head and its
-- node of greatest order
abbrev pub closed_unless_one_link : Certificate → ℕ → ℕ → Bool
closed_unless_one_link c head k =
    (length (links_of c k) == 1)
    || (list_all (λ link. not (is_sole link.role)) (links_of c k)
    && ((length (closings c k) == 1) && list_all (joins_greatest c head k) (closings c k)))

-- the sixth rule, at a node: unless it is the root, that is so of its block
abbrev pub closed_block : Certificate → ℕ → ℕ → Bool
closed_block c root a = (a == root) || both (closed_unless_one_link c) (head_of c a) (block_of c a)
