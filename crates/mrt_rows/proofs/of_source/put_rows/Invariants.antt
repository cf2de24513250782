use Rattle.std.proofs.Common.{◌≡◌, length}
use Rattle.mrt_rows.specs.steps.ListedDirections.{IsNode, IsRooted}
use Rattle.mrt_rows.proofs.Filling.{IsFilling}
use Rattle.mrt_rows.proofs.Rooting.{og_of}
use Rattle.mrt_rows.proofs.of_source.put_rows.Given as goal

abbrev pub invariant-loop-t : goal.invariant-loop-t
invariant-loop-t l = record {
  one_each : length l.rows ≡ length l.rooted.graph.now.ids;
  filling : (rooted : IsRooted l.rooted) (within : IsNode l.rooted l.fn.s) → IsFilling (og_of rooted) l.fn.s within l.maker.common.by_order.items l.t-index l.rows;
}
