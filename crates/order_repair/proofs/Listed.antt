-- The blocks of nodes and links, as their chains name them.
use Rattle.std.proofs.Common.{◌≡◌, ◌≤◌, ◌<◌, ◌+◌, ◌++◌, ◌∙◌, ℕ, List, [], ◌∷◌, Some, length, slice_get, take, inl, inr, sym, ap, subst, arith}
use Rattle.std.proofs.lemmas.List.{length-map, take_more}
use Rattle.std.proofs.lemmas.Option.{get_or_from_slice_get, same_Some, slice_get-map, slice_get_within}
use Rattle.mrt_graph.specs.declared.gadag.Mark.{Mark}
use Rattle.mrt_graph.specs.declared.gadag.Place.{Place}
use Rattle.mrt_graph.specs.DirectedLists.{DirectedLists}
use Rattle.mrt_graph.specs.GraphInvariant.{IsTopology}
use Rattle.mrt_graph.specs.Topology.{Topology}
use Rattle.link_direction.specs.Directions.{Directions, Says}
use Rattle.link_direction.specs.OrderedGadag.{IsOrderedGadag}
use Rattle.link_direction.proofs.ClosedBlocks.{inside_of_link}
use Rattle.order_repair.specs.declared.kind.Kind.{Kind}
use Rattle.order_repair.specs.declared.kind.Kind.TheVariants.{Links, Nodes}
use Rattle.order_repair.specs.steps.Blocks.{IsHeadWithin, IsNext, blocks_of, count_of, element_of}
use Rattle.order_repair.specs.Failed.{IsWithin, LiesIn}

abbrev block_in : Kind → Directions → ℕ → ℕ
block_in Nodes w n = w.block n
block_in Links w e = w.lies_in e

pub element_within : (kind : Kind) (g : Topology) (n : ℕ) → n < count_of kind g → IsWithin g (element_of kind n)
element_within Nodes g n within = within
element_within Links g e within = within

module _ (g : Topology) (d : DirectedLists) (w : Directions) (says : Says g d w) where
  named : (kind : Kind) (n : ℕ) → n < count_of kind g → slice_get (blocks_of kind d) n ≡ Some (block_in kind w n)
  named Nodes v within = slice_get-map (λ (p : Place). p.block) d.places v ∙ says.blocks v within
  named Links e within = slice_get-map (λ (m : Mark). m.block) d.marks e ∙ says.link_blocks e within

  pub many : (kind : Kind) → length (blocks_of kind d) ≡ count_of kind g
  many Nodes = length-map d.places (λ (p : Place). p.block) ∙ says.one_place_each
  many Links = length-map d.marks (λ (m : Mark). m.block) ∙ says.one_mark_each

  -- the next one of a block lies in it, and no other one before it does but the head
  pub next_lies : (kind : Kind) (block head from next : ℕ) → IsNext (blocks_of kind d) block from next → next < count_of kind g
      → LiesIn g w block head (element_of kind next)
  next_lies kind block head from next is within =
      go kind (same_Some (block_in kind w next) block (sym (named kind next within) ∙ is.named (omega (arith, within, many kind)))) within
    where
      go : (kind : Kind) → block_in kind w next ≡ block → next < count_of kind g → LiesIn g w block head (element_of kind next)
      go Nodes same within = record { within = within; in_block = inl same }
      go Links same within = record { within = within; in_block = same }

  pub none_lies : (kind : Kind) (block head from next n : ℕ) → IsNext (blocks_of kind d) block from next → from ≤ n → n < next
      → (n ≡ head → IsHeadWithin kind head from next → ⊥) → LiesIn g w block head (element_of kind n) → ⊥
  none_lies Nodes block head from next v is low high no_head lies = elim lies.in_block [
    | inl same ↦ is.none_before v low high (named Nodes v lies.within ∙ ap (λ (b : ℕ). Some b) same)
    | inr home ↦ no_head home (omega (arith, low, home), omega (arith, high, home))
  ]
  none_lies Links block head from next e is low high no_head lies =
      is.none_before e low high (named Links e lies.within ∙ ap (λ (b : ℕ). Some b) lies.in_block)

  -- each block that is named is the number of a node
  pub blocks_within : IsTopology g → (root : ℕ) → IsOrderedGadag g root w → (kind : Kind) (k name : ℕ) → slice_get (blocks_of kind d) k ≡ Some name
      → name < length g.ids
  blocks_within kept root ordered kind k name is =
      let within : k < count_of kind g = omega (arith, slice_get_within (blocks_of kind d) k name is, many kind) in
      subst (λ (b : ℕ). b < length g.ids) (same_Some (block_in kind w k) name (sym (named kind k within) ∙ is)) (go kind within)
    where
      go : (kind : Kind) → k < count_of kind g → block_in kind w k < length g.ids
      go Nodes within = ordered.heads.block_within k within
      go Links within =
          let onward = ordered.links.directed k within in
          let it = inside_of_link g root w k (w.tail k) onward.0 (record { kept = kept; ordered = ordered }) onward.1 in
          subst (λ (b : ℕ). b < length g.ids) it.in_block (ordered.heads.block_within it.m it.within)

  -- a head before the next one is the number of a node
  pub head_is_node : (kind : Kind) (block head from next : ℕ) → IsNext (blocks_of kind d) block from next → IsHeadWithin kind head from next → head < length g.ids
  head_is_node Nodes block head from next is within = omega (arith, within.1, is.within, many Nodes)
  head_is_node Links block head from next is within = absurd within

-- one block more
pub one_more : (blocks : List ℕ) (k block : ℕ) (done more : List ℕ) → slice_get blocks k ≡ Some block → done ≡ take k blocks → more ≡ done ++ block ∷ []
    → more ≡ take (k + 1) blocks
one_more blocks k block done more at before is =
    is
    ∙ ap (λ (them : List ℕ). them ++ block ∷ []) before
    ∙ ap (λ (b : ℕ). take k blocks ++ b ∷ []) (sym (get_or_from_slice_get blocks k block block at))
    ∙ sym (take_more blocks k block (slice_get_within blocks k block at))
