use Rattle.std.proofs.Common.{◌≡◌, ◌-◌, ℕ}
use Rattle.link_direction.specs.Directions.{Directions}
use Rattle.text_parts.specs.steps.Adds.{Adds}
use Rattle.order_repair.specs.steps.Blocks.{IsNext, Letters, blocks_of, count_of}
use Rattle.order_repair.specs.steps.Source.{AreHopsIn}
use Rattle.order_repair.specs.steps.Tagging.{IsPair}
use Rattle.order_repair.proofs.line.push_letters.Given as goal

abbrev pub invariant-loop-next : goal.invariant-loop-next
invariant-loop-next l = record {
  count : l.count ≡ count_of l.members.kind l.view.graph.now;
  next : IsNext (blocks_of l.members.kind l.view.directed.now) l.members.place.block l.from l.next;
  letters : (root : ℕ) (w : Directions) → AreHopsIn l.view root w l.pair.source
      → IsPair l.view.graph.now root w l.pair.source l.pair.to l.pair.tag l.members.place.block l.members.place.head
      → Adds (Letters l.view.graph.now root w l.pair l.members l.from) l.fn.text.items l.text.items;
}

abbrev pub decreases-loop-next : goal.decreases-loop-next
decreases-loop-next l = l.count - l.next
