use Rattle.std.proofs.Common.{◌≡◌, ◌≢◌, ◌<◌, ℕ, true, Some, length, slice_get}
use Rattle.block_spf.specs.BlockAims.{aim_at}
use Rattle.mrt_rows.specs.steps.ListedDirections.{IsNode, directions_by}
use Rattle.mrt_rows.proofs.WayAims.{IsGone}
use Rattle.mrt_rows.proofs.column.put_way.Given as goal

abbrev pub invariant-loop-to : goal.invariant-loop-to
invariant-loop-to l = record {
  room : length l.aims ≡ length l.initial.aims;
  a_mark_each : length l.marks ≡ length l.rooted.graph.now.ids;
  within : IsNode l.rooted l.c;
  gone : ((y : ℕ) → IsNode l.rooted y → aim_at l.initial.aims l.width l.to.at ((directions_by l.rooted).block y) ≡ (directions_by l.rooted).head y)
      → IsGone l.rooted.graph.now l.rooted.root (directions_by l.rooted) l.to.node l.c (aim_at l.aims l.width l.to.at) l.marks;
  others : (i k : ℕ) → i < l.width → i ≢ l.to.at → aim_at l.aims l.width i k ≡ aim_at l.initial.aims l.width i k;
  stay : (k : ℕ) → slice_get l.initial.marks k ≡ Some true → slice_get l.marks k ≡ Some true;
}

abbrev pub decreases-loop-to : goal.decreases-loop-to
decreases-loop-to l = (directions_by l.rooted).order l.c
