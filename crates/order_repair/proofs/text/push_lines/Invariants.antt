use Rattle.std.proofs.Common.{◌≡◌, ℕ, length}
use Rattle.link_direction.specs.Directions.{Directions}
use Rattle.order_repair.specs.steps.Source.{AreHopsIn}
use Rattle.text_parts.specs.steps.Adds.{Adds}
use Rattle.text_parts.specs.Parts.{AreParts}
use Rattle.order_repair.specs.OrderText.{IsPartOn}
use Rattle.order_repair.proofs.text.push_lines.Given as goal

abbrev pub invariant-loop-t : goal.invariant-loop-t
invariant-loop-t l = record {
  count : l.count ≡ length l.view.graph.now.ids;
  lines : (root : ℕ) (w : Directions) → AreHopsIn l.view root w l.source
      → Adds (AreParts (IsPartOn l.view.graph.now root w l.source) l.t) l.fn.text.items l.text.items;
}
