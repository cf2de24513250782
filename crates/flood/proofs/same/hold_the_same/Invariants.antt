use Rattle.flood.proofs.SameLsas.{AreSameBefore}
use Rattle.flood.proofs.same.hold_the_same.Given as goal

abbrev pub invariant-loop-place : goal.invariant-loop-place
invariant-loop-place l = AreSameBefore l.lsas l.others l.store.held.items l.other.held.items l.place
