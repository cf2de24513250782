use Rattle.std.proofs.Common.{◌≡◌, ◌⊎◌, ◌<◌, ◌≤◌, ◌+◌, ℕ, slice_index}
use Rattle.block_spf.proofs.paths_over_ends.keep.Given as goal

abbrev pub invariant-loop-j : goal.invariant-loop-j
invariant-loop-j l = record {
  there : (k : ℕ) → k < l.j → slice_index l.all (l.at + k) ≡ slice_index l.own k;
  elsewhere : (i : ℕ) → (i < l.at) ⊎ (l.at + l.j ≤ i) → slice_index l.all i ≡ slice_index l.initial.all i;
}
