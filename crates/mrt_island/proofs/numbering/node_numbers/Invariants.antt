use Rattle.std.proofs.Common.{◌≡◌, ◌≤◌, ◌<◌, ℕ, get_or, length, vec_len}
use Rattle.std.specs.Prelude.{vec_capacity}
use Rattle.mrt_island.specs.Numbering.{number_inside}
use Rattle.mrt_island.proofs.numbering.node_numbers.Given as goal

abbrev pub invariant-loop-flag : goal.invariant-loop-flag
invariant-loop-flag l = record {
  room : length l.inside ≤ vec_capacity l.numbers;
  count : vec_len l.numbers ≡ l.flag-index;
  few : l.number ≤ l.flag-index;
  next : l.number ≡ number_inside l.inside l.flag-index;
  so_far : (s : ℕ) → s < l.flag-index → get_or l.numbers.items s 0 ≡ number_inside l.inside s;
}
