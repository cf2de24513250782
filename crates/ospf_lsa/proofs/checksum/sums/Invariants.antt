use Rattle.std.proofs.Common.{◌≡◌, ◌<◌, length}
use Rattle.ospf_lsa.specs.Checksum.{sums_from, sums_of}
use Rattle.ospf_lsa.proofs.checksum.sums.Given as goal

abbrev pub invariant-loop-rest : goal.invariant-loop-rest
invariant-loop-rest l = record {
  left : sums_from l.sums.0 l.sums.1 l.rest ≡ sums_of l.bytes;
  first : l.sums.0 < 255;
  second : l.sums.1 < 255;
}

abbrev pub decreases-loop-rest : goal.decreases-loop-rest
decreases-loop-rest l = length l.rest
