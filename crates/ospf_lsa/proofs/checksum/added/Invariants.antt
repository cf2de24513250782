use Rattle.std.proofs.Common.{◌≡◌, ◌≤◌, ◌+◌, ◌*◌, ◌%◌, drop}
use Rattle.ospf_lsa.specs.Checksum.{sums_from}
use Rattle.ospf_lsa.proofs.checksum.added.Given as goal

-- What is left, from the remainders on, comes to the same; the sums grow no faster than so.
abbrev pub invariant-loop-byte : goal.invariant-loop-byte
invariant-loop-byte l = record {
  left : sums_from (l.first % 255) (l.second % 255) (drop l.byte-index l.run)
      ≡ sums_from l.fn.before.0 l.fn.before.1 l.run;
  first : l.first ≤ 254 + 255 * l.byte-index;
  second : l.second ≤ 254 + 1044734 * l.byte-index;
}
