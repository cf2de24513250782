use Rattle.flood.proofs.Numbered.{AreTold}
use Rattle.flood.proofs.numbered_update.numbered_updates.Given as goal

abbrev pub invariant-loop-update : goal.invariant-loop-update
invariant-loop-update l =
    AreTold l.lsas.items l.packets.items l.update-iterator.rest.items l.fn.updates.items
