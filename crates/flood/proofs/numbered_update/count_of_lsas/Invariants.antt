use Rattle.std.proofs.Common.{◌≡◌, ◌-◌, ◌^◌, length, min, take}
use Rattle.std.specs.Prelude.{sum_by}
use Rattle.flood.proofs.numbered_update.count_of_lsas.Given as goal

abbrev pub invariant-loop-update : goal.invariant-loop-update
invariant-loop-update l =
    l.count ≡ min (sum_by (λ update. length update.lsas) (take l.update-index l.updates)) (2 ^ 64 - 1)
