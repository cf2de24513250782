use Rattle.std.proofs.Common.{◌≡◌, ◌<◌, ℕ, true, Some, length, slice_get}
use Rattle.block_spf.specs.LeastPath.{HasMoreLinks}
use Rattle.mrt_rows.specs.NearOf.{IsSoleOf}
use Rattle.mrt_rows.specs.steps.ListedDirections.{directions_by}
use Rattle.mrt_rows.proofs.common.take_soles.Given as goal

abbrev pub invariant-loop-n : goal.invariant-loop-n
invariant-loop-n l = record {
  a_sole_each : length l.soles ≡ length l.rooted.graph.now.ids;
  a_mark_each : length l.heads ≡ length l.rooted.graph.now.ids;
  soles : (v link : ℕ) → v < l.n → slice_get l.soles v ≡ Some link → IsSoleOf l.rooted.graph.now (directions_by l.rooted) v link;
  marked : (v : ℕ) → v < l.n → HasMoreLinks l.rooted.graph.now (directions_by l.rooted) ((directions_by l.rooted).block v)
      → slice_get l.heads ((directions_by l.rooted).head v) ≡ Some true;
}
