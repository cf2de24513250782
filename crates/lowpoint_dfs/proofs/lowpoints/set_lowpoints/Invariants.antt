use Rattle.std.proofs.Common.{◌≡◌, ◌≤◌, ℕ, Some, length, slice_get}
use Rattle.lowpoint_dfs.specs.steps.Lowering.{AreAlike}
use Rattle.lowpoint_dfs.specs.Lowpoint.{HasLowpoint}
use Rattle.lowpoint_dfs.proofs.lowpoints.set_lowpoints.Given as goal

abbrev pub invariant-loop-place : goal.invariant-loop-place
invariant-loop-place l = record {
  one_each : length l.nodes.items ≡ length l.g.ids;
  alike : AreAlike l.initial.nodes.items l.nodes.items;
  done : (k v : ℕ) → l.place ≤ k → slice_get l.order k ≡ Some v → HasLowpoint l.g l.nodes.items v;
}
