use Rattle.std.proofs.Common.{◌≤◌, ◌-◌, length}
use Rattle.ospf_lsa.proofs.Files.{IsReadTo}
use Rattle.ospf_lsa.proofs.reading.read_lsas.Given as goal

abbrev pub invariant-loop-at : goal.invariant-loop-at
invariant-loop-at l = record {
  within : l.at ≤ length l.bytes;
  read : IsReadTo l.bytes l.lsas.items l.at;
}

abbrev pub decreases-loop-at : goal.decreases-loop-at
decreases-loop-at l = length l.bytes - l.at
