use Rattle.std.proofs.Common.{◌≡◌, ◌≤◌, ◌++◌, ◌+◌, ◌-◌, ◌*◌, drop, vec_len}
use Rattle.std.specs.Prelude.{vec_capacity}
use Rattle.ospf_lsa.specs.steps.Reading.{numbers_in}
use Rattle.ospf_lsa.proofs.field.add_numbers.Given as goal

abbrev pub invariant-loop-i : goal.invariant-loop-i
invariant-loop-i l = record {
  whole : l.numbers.items ++ numbers_in (l.count - l.i) (drop (4 * l.i) l.bytes)
      ≡ l.fn.numbers.items ++ numbers_in l.count l.bytes;
  many : vec_len l.numbers ≡ vec_len l.fn.numbers + l.i;
  room : vec_len l.fn.numbers + l.count ≤ vec_capacity l.numbers;
}
