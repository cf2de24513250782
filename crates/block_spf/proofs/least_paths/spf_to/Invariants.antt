use Rattle.std.proofs.Common.{◌≡◌, ◌<◌, ℕ, Option, Some, length, slice_get}
use Rattle.link_direction.specs.Directions.{Directions}
use Rattle.block_spf.specs.declared.reach.Hop.{Hop}
use Rattle.block_spf.specs.HasDirections.{AreDirections}
use Rattle.block_spf.specs.LeastPath.{IsHop}
use Rattle.block_spf.proofs.least_paths.spf_to.Given as goal

abbrev pub invariant-loop-n : goal.invariant-loop-n
invariant-loop-n l = record {
  one_each : length l.hops.items ≡ length l.g.ids;
  one_cost : length l.costs ≡ 1;
  one_link : length l.links ≡ 1;
  done : (root s : ℕ) (w : Directions) (hop : Option Hop) → AreDirections l.g l.d root w → s < l.n → slice_get l.hops.items s ≡ Some hop
      → IsHop l.g w l.fn.dir s l.fn.target hop;
}
