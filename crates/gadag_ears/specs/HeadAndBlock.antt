-- Heads and blocks, read off the ears (RFC 7811, section 4.5: a node's local root and its block ID).
use Rattle.std.specs.Prelude.{◌≡◌, ℕ, List, Some, Contains}
use Rattle.mrt_graph.specs.declared.gadag.Place.{Place}
use Rattle.mrt_graph.specs.GadagFields.{block_at, head_at}
use Rattle.gadag_ears.specs.declared.kind.EarKind.TheVariants.{Child}
use Rattle.gadag_ears.specs.Ear.{Ear, new_nodes}

-- a child ear that stops where it starts begins a block
abbrev pub BeginsBlock : Ear → Type 0
BeginsBlock ear = (ear.kind ≡ Child) × (ear.stop ≡ ear.start)

-- node v has this head and this block
abbrev pub HasPlace : List Place → ℕ → ℕ → ℕ → Type 0
HasPlace places v head block = (head_at places v ≡ Some head) × (block_at places v ≡ Some block)

-- node v has the head and the block of node u
abbrev pub IsPlacedAs : List Place → ℕ → ℕ → Type 0
IsPlacedAs places v u = (head_at places v ≡ head_at places u) × (block_at places v ≡ block_at places u)

-- heads and blocks. The root is its own head and its own block. Where an ear begins a block, its start is the head of
-- its new nodes, and the block is named by the first of them; the new nodes of any other ear have the head and the
-- block of the node where the ear stops
pub record ArePlaces (root : ℕ) (ears : List Ear) (places : List Place) : Type 0 where
  pub of_root : HasPlace places root root root
  pub of_block : (ear : Ear) (v : ℕ) → Contains ears ear → Contains (new_nodes ear) v → BeginsBlock ear
      → HasPlace places v ear.start ear.first
  pub of_stop : (ear : Ear) (v : ℕ) → Contains ears ear → Contains (new_nodes ear) v → ¬ BeginsBlock ear
      → IsPlacedAs places v ear.stop
