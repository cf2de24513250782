use Rattle.std.proofs.Common.{◌≡◌, ◌<◌, ℕ, Some, length, slice_get}
use Rattle.mrt_rows.proofs.column.take_next.Given as goal

abbrev pub invariant-loop-n : goal.invariant-loop-n
invariant-loop-n l = record {
  one_each : length l.targets ≡ length l.initial.targets;
  past_first : 0 < l.at;
  first : slice_get l.targets 0 ≡ Some l.fn.from;
  within : (j t : ℕ) → slice_get l.targets j ≡ Some t → t < l.fn.count;
}
