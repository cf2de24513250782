use Rattle.std.proofs.Common.{◌≡◌, ◌≤◌, ◌++◌, length, drop, vec_len}
use Rattle.std.specs.Prelude.{vec_capacity}
use Rattle.mrt_island.proofs.LinkNumbers.{numbers_from}
use Rattle.mrt_island.proofs.numbering.link_numbers.Given as goal

abbrev pub invariant-loop-flag : goal.invariant-loop-flag
invariant-loop-flag l = record {
  room : length l.flags ≤ vec_capacity l.numbers;
  count : vec_len l.numbers ≡ l.flag-index;
  few : l.number ≤ l.flag-index;
  so_far : l.numbers.items ++ numbers_from l.number (drop l.flag-index l.flags) ≡ numbers_from 0 l.flags;
}
