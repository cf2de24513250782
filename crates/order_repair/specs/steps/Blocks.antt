-- The nodes and the links of each block, by number, and the letters of a pair's line for them.
use Rattle.std.specs.Prelude.{◌≤◌, ◌<◌, ℕ, List, length, map, ◌≡◌, ◌≢◌, ◌+◌, Some, slice_get}
use Rattle.mrt_graph.specs.declared.link.Element.{Element}
use Rattle.mrt_graph.specs.declared.link.Element.TheVariants as elements
use Rattle.mrt_graph.specs.DirectedLists.{DirectedLists}
use Rattle.mrt_graph.specs.Topology.{Topology}
use Rattle.link_direction.specs.Directions.{Directions}
use Rattle.text_parts.specs.Parts.{AreParts}
use Rattle.order_repair.specs.declared.kind.Kind.{Kind}
use Rattle.order_repair.specs.declared.kind.Kind.TheVariants.{Links, Nodes}
use Rattle.order_repair.specs.declared.block_lists.BlockLists.{BlockLists}
use Rattle.order_repair.specs.declared.chains.Chains.{Chains}
use Rattle.order_repair.specs.declared.kind.Members.{Members}
use Rattle.order_repair.specs.declared.pair.Pair.{Pair}
use Rattle.order_repair.specs.OrderText.{IsLetter}

abbrev pub count_of : Kind → Topology → ℕ
count_of Nodes g = length g.ids
count_of Links g = length g.links

-- of each its block: a node's own one, and none of which it is the head
abbrev pub blocks_of : Kind → DirectedLists → List ℕ
blocks_of Nodes d = map (λ place. place.block) d.places
blocks_of Links d = map (λ mark. mark.block) d.marks

abbrev pub element_of : Kind → ℕ → Element
element_of Nodes n = elements.Node n
element_of Links e = elements.Link e

-- the block's head is a node, whose number lies from the one on and before the other
abbrev pub IsHeadWithin : Kind → ℕ → ℕ → ℕ → Type 0
IsHeadWithin Nodes head from until = (from ≤ head) × (head < until)
IsHeadWithin Links head from until = ⊥

-- the next number of a name, from that number on; the count of all where there is none
pub record IsNext (names : List ℕ) (name from next : ℕ) : Type 0 where
  pub onward : from ≤ next
  pub within : next ≤ length names
  pub named : next < length names → slice_get names next ≡ Some name
  pub none_before : (k : ℕ) → from ≤ k → k < next → slice_get names k ≢ Some name

-- of each name the first number from that one on, and of each number from there on the next one of its name
pub record AreChains (names : List ℕ) (from : ℕ) (firsts nexts : List ℕ) : Type 0 where
  pub one_next_each : length nexts ≡ length names
  pub firsts_are : (name first : ℕ) → slice_get firsts name ≡ Some first → IsNext names name from first
  pub nexts_are : (k name next : ℕ) → from ≤ k → slice_get names k ≡ Some name → slice_get nexts k ≡ Some next
      → IsNext names name (k + 1) next

pub record AreChainsOf (d : DirectedLists) (kind : Kind) (chains : Chains) : Type 0 where
  pub chained : AreChains (blocks_of kind d) 0 chains.firsts.items chains.nexts.items
  pub one_first_each : length chains.firsts.items ≡ length d.places

pub record AreBlockLists (d : DirectedLists) (lists : BlockLists) : Type 0 where
  pub nodes : AreChainsOf d Nodes lists.nodes
  pub links : AreChainsOf d Links lists.links

-- that for a node of a block, or for a link; and those for the first so many
abbrev pub Letter : Topology → ℕ → Directions → Pair → Members → ℕ → List ℕ → Type 0
Letter g root w pair members n =
    IsLetter g root w pair.source pair.to members.place.block members.place.head (element_of members.kind n)

abbrev pub Letters : Topology → ℕ → Directions → Pair → Members → ℕ → List ℕ → Type 0
Letters g root w pair members count = AreParts (Letter g root w pair members) count
