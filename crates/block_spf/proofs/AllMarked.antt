-- A list in which all are marked.
use Rattle.std.proofs.Common.{◌≡◌, ◌<◌, ℕ, zero, suc, true, Some, slice_get, refl, arith}
use Rattle.std.specs.Prelude.{replicate}

pub all_marked : (n k : ℕ) → k < n → slice_get (replicate n true) k ≡ Some true
all_marked zero k below = absurd (omega (arith, below))
all_marked (suc n) zero below = refl
all_marked (suc n) (suc k) below = all_marked n k (omega (arith, below))
