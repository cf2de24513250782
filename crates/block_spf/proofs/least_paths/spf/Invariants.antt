use Rattle.std.proofs.Common.{◌≡◌, ◌<◌, ℕ, Option, Some, length, slice_get}
use Rattle.link_direction.specs.Directions.{Directions}
use Rattle.block_spf.specs.declared.reach.Hop.{Hop}
use Rattle.block_spf.specs.HasDirections.{AreDirections}
use Rattle.block_spf.specs.LeastPath.{IsHop}
use Rattle.block_spf.proofs.least_paths.spf.Given as goal

abbrev pub invariant-loop-n : goal.invariant-loop-n
invariant-loop-n l = record {
  one_each : length l.hops.items ≡ length l.g.ids;
  each : (root : ℕ) (w : Directions) → AreDirections l.g l.d root w → (t : ℕ) (hop : Option Hop) → t < l.n → slice_get l.hops.items t ≡ Some hop
      → IsHop l.g w l.fn.dir l.source t hop;
}
