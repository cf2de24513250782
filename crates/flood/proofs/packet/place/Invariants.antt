use Rattle.std.proofs.Common.{◌≡◌, ◌++◌, map, take, drop}
use Rattle.flood.specs.Updates.{placed_from}
use Rattle.flood.proofs.packet.place.Given as goal

abbrev pub invariant-loop-lsa : goal.invariant-loop-lsa
invariant-loop-lsa l =
    l.lsas ≡ map (placed_from l.start) (take l.lsa-index l.initial.lsas) ++ drop l.lsa-index l.initial.lsas
