use Rattle.std.proofs.Common.{◌≡◌, ◌<◌, ℕ, length}
use Rattle.link_direction.specs.Directions.{Directions}
use Rattle.block_spf.specs.BlockAims.{aim_at}
use Rattle.block_spf.specs.HasDirections.{AreDirections}
use Rattle.block_spf.proofs.aiming.put_heads.Given as goal

abbrev pub invariant-loop-n : goal.invariant-loop-n
invariant-loop-n l = record {
  room : length l.aims ≡ length l.initial.aims;
  heads : (root : ℕ) (w : Directions) → AreDirections l.g l.d root w → (j y : ℕ) → j < l.width → y < l.n → y < length l.g.ids
      → aim_at l.aims l.width j (w.block y) ≡ w.head y;
}
