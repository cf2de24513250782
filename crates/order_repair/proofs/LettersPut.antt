-- The letters of a block's nodes or links, one after another.
use Rattle.std.proofs.Common.{◌≡◌, ◌≤◌, ◌<◌, ◌+◌, ℕ, List, [], arith}
use Rattle.mrt_graph.specs.DirectedLists.{DirectedLists}
use Rattle.mrt_graph.specs.declared.gadag.Place.{Place}
use Rattle.mrt_graph.specs.declared.link.Element.TheVariants as elements
use Rattle.mrt_graph.specs.Topology.{Topology}
use Rattle.link_direction.specs.Directions.{Directions, Says}
use Rattle.text_parts.specs.steps.Adds.{Adds}
use Rattle.text_parts.proofs.Adding.{one_part_more}
use Rattle.order_repair.specs.declared.kind.Kind.{Kind}
use Rattle.order_repair.specs.declared.kind.Kind.TheVariants.{Links, Nodes}
use Rattle.order_repair.specs.declared.kind.Members.{Members}
use Rattle.order_repair.specs.declared.pair.Pair.{Pair}
use Rattle.order_repair.specs.steps.Blocks.{IsHeadWithin, IsNext, Letter, Letters, blocks_of}
use Rattle.order_repair.specs.OrderText.{IsLetter, NotOfIt}
use Rattle.order_repair.proofs.Listed.{none_lies}
use Rattle.order_repair.proofs.PartsPassed.{passed}

module _ (g : Topology) (d : DirectedLists) (root : ℕ) (w : Directions) (says : Says g d w) (pair : Pair) (before text : List ℕ) (from until : ℕ) where
  -- where the head is none of those between
  pub without_head : (members : Members) → IsNext (blocks_of members.kind d) members.place.block from until
      → Adds (Letters g root w pair members from) before text → (IsHeadWithin members.kind members.place.head from until → ⊥)
      → Adds (Letters g root w pair members until) before text
  without_head members next letters outside =
      passed (Letter g root w pair members) from until before text next.onward
      (λ k low high. NotOfIt (none_lies g d w says members.kind members.place.block members.place.head from until k next low high (λ same. outside))) letters

  -- and where it is one of them
  pub with_head : (kind : Kind) (place : Place) → IsNext (blocks_of kind d) place.block from until
      → Adds (Letters g root w pair (record { kind = kind; place = place }) from) before text → IsHeadWithin kind place.head from until → (after : List ℕ)
      → Adds (IsLetter g root w pair.source pair.to place.block place.head (elements.Node place.head)) text after
      → Adds (Letters g root w pair (record { kind = kind; place = place }) until) before after
  with_head Links place next letters within after letter = absurd within
  with_head Nodes place next letters within after letter =
      let members : Members = record { kind = Nodes; place = place } in
      let none : (k : ℕ) → from ≤ k → k < until → (k ≡ place.head → ⊥) → Letter g root w pair members k [] =
      (λ k low high other. NotOfIt (none_lies g d w says Nodes place.block place.head from until k next low high (λ same. absurd (other same)))) in
      let to_head = passed (Letter g root w pair members) from place.head before text within.0
      (λ k low high. none k low (omega (arith, high, within.1)) (λ same. omega (arith, high, same))) letters in
      let over = one_part_more (Letter g root w pair members) place.head before text after to_head letter in
      passed (Letter g root w pair members) (place.head + 1) until before after (omega (arith, within.1))
      (λ k low high. none k (omega (arith, low, within.0)) high (λ same. omega (arith, low, same))) over
