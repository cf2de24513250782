use Rattle.std.proofs.Common.{◌≡◌, ◌+◌, ◌<◌, ℕ, Some, length, slice_get}
use Rattle.link_direction.proofs.numbering.numbers_of.Given as goal

abbrev pub invariant-loop-place : goal.invariant-loop-place
invariant-loop-place l = record {
  one_each : length l.numbers.items ≡ length l.g.ids;
  so_far : (k v : ℕ) → k < l.place → slice_get l.order k ≡ Some v → slice_get l.numbers.items v ≡ Some (k + 1);
}
