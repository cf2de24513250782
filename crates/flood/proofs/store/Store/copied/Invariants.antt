use Rattle.flood.specs.steps.Numbers.{entries_by}
use Rattle.flood.proofs.Copies.{AreCopied}
use Rattle.flood.proofs.store.Store.copied.Given as goal

abbrev pub invariant-loop-place : goal.invariant-loop-place
invariant-loop-place l = AreCopied (entries_by l.lsas l.self.held.items) l.place l.copy
