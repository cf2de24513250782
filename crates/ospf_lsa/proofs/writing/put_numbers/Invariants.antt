use Rattle.std.proofs.Common.{◌≡◌, ◌≤◌, ◌+◌, ◌++◌, length, drop, vec_len, vec_capacity}
use Rattle.std.specs.Int.{w32, to_be_bytes}
use Rattle.std.specs.List.{flat_map, AllByRecursion}
use Rattle.ospf_lsa.specs.Lsas.{Is32Bits}
use Rattle.ospf_lsa.proofs.writing.put_numbers.Given as goal

-- What is left to add, after what was added, is all.
abbrev pub invariant-loop-number : goal.invariant-loop-number
invariant-loop-number l = record {
  text : l.out.items ++ flat_map (to_be_bytes w32) (drop l.number-index l.numbers) ≡ l.fn.out.items ++ flat_map
      (to_be_bytes w32) l.numbers;
  room : vec_len l.out + length (flat_map (to_be_bytes w32) (drop l.number-index l.numbers)) ≤ vec_capacity l.out;
  capacity : vec_capacity l.fn.out ≤ vec_capacity l.out;
  fit : AllByRecursion Is32Bits (drop l.number-index l.numbers) → AllByRecursion Is32Bits l.numbers;
}
