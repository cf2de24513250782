use Rattle.std.proofs.Common.{◌≡◌, ◌⊎◌, ◌<◌, ◌≤◌, ◌+◌, ℕ, slice_index}
use Rattle.block_spf.specs.steps.Side.{cost_from}
use Rattle.block_spf.proofs.paths_over_ends.keep_costs.Given as goal

abbrev pub invariant-loop-j : goal.invariant-loop-j
invariant-loop-j l = record {
  there : (k : ℕ) → k < l.j → slice_index l.all (l.at + k) ≡ cost_from l.x (slice_index l.aiming.aims.now (l.from + k)) (slice_index l.costs k);
  elsewhere : (i : ℕ) → (i < l.at) ⊎ (l.at + l.j ≤ i) → slice_index l.all i ≡ slice_index l.initial.all i;
}
