-- Nodes' relatives by number: the members of a node's block, its head and its children, these two in other blocks.
use Rattle.std.specs.Prelude.{◌≡◌, ◌==◌, ◌<◌, ◌&&◌, ℕ, Bool, false, List, Option, Some, None, not, length, map, slice_get, if◌then◌else◌}
use Rattle.std.specs.Option.{option_map}
use Rattle.mrt_graph.specs.declared.cert.CertNode.{CertNode}
use Rattle.mrt_graph.specs.BothThere.{are_equal}
use Rattle.mrt_graph.specs.Groups.{has_key}

-- of each node its block; and its head where that lies in another block, else the number of nodes, as there is none
pub record Kin : Type 0 where
  pub blocks : List ℕ
  pub heads : List ℕ

-- a node's head where it lies in another block; else how many nodes there are
abbrev pub outer_head : List CertNode → CertNode → ℕ
outer_head nodes node =
    if are_equal (option_map (λ head. head.block) (slice_get nodes node.head)) (Some node.block)
    then length nodes else node.head

abbrev pub kin_of : List CertNode → Kin
kin_of nodes = record { blocks = map (λ node. node.block) nodes; heads = map (outer_head nodes) nodes }

-- by the heads that lie in other blocks: that of v is s
abbrev pub is_child : List ℕ → ℕ → ℕ → Bool
is_child heads s v = has_key heads s v

-- that of s is v, and v is not a child of s
abbrev pub is_upper : List ℕ → ℕ → ℕ → Bool
is_upper heads s v = is_child heads v s && not (is_child heads s v)

-- the one such v, where there is one
abbrev pub IsUpper : List ℕ → ℕ → Option ℕ → Type 0
IsUpper heads s (Some head) = (head < length heads) × ((v : ℕ) → v < length heads → is_upper heads s v ≡ (v == head))
IsUpper heads s None = (v : ℕ) → v < length heads → is_upper heads s v ≡ false
