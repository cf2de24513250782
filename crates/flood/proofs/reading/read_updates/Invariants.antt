use Rattle.std.proofs.Common.{◌-◌, length}
use Rattle.flood.proofs.OneFile.{IsReadTo}
use Rattle.flood.proofs.reading.read_updates.Given as goal

abbrev pub invariant-loop-at : goal.invariant-loop-at
invariant-loop-at l = IsReadTo l.bytes l.updates.items l.at

abbrev pub decreases-loop-at : goal.decreases-loop-at
decreases-loop-at l = length l.bytes - l.at
