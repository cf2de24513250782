use Rattle.std.proofs.Common.{◌≡◌, ◌<◌, ◌≤◌, ℕ, Some, length, slice_get}
use Rattle.block_spf.specs.BlockAims.{aim_at}
use Rattle.mrt_rows.specs.Chain.{AreWayAims}
use Rattle.mrt_rows.specs.steps.ListedDirections.{IsNode, directions_by}
use Rattle.mrt_rows.proofs.column.put_ways.Given as goal

abbrev pub invariant-loop-at : goal.invariant-loop-at
invariant-loop-at l = record {
  room : length l.aims ≡ length l.initial.aims;
  a_mark_each : length l.marks ≡ length l.rooted.graph.now.ids;
  done : (i t : ℕ) → i < l.at → slice_get l.targets i ≡ Some t
      → AreWayAims l.rooted.graph.now l.rooted.root (directions_by l.rooted) t (aim_at l.aims l.width i) l.marks;
  ahead : (i y : ℕ) → l.at ≤ i → i < l.width → IsNode l.rooted y → aim_at l.aims l.width i ((directions_by l.rooted).block y) ≡ (directions_by l.rooted).head y;
}
