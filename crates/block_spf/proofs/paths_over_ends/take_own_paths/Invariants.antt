use Rattle.std.proofs.Common.{◌<◌, ℕ, length}
use Rattle.link_direction.specs.Directions.{Directions}
use Rattle.block_spf.specs.Against.{against}
use Rattle.block_spf.specs.steps.Aiming.{HasOwnPaths}
use Rattle.block_spf.specs.HasDirections.{AreDirections}
use Rattle.block_spf.specs.steps.Side.{AreCosts}
use Rattle.block_spf.specs.Turns.{turn_of}
use Rattle.block_spf.proofs.paths_over_ends.take_own_paths.Given as goal

abbrev pub invariant-loop-x : goal.invariant-loop-x
invariant-loop-x l = record {
  most : AreCosts l.all_costs;
  turned : (root : ℕ) (w : Directions) → AreDirections l.aiming.graph.now l.aiming.directed.now root w → (y : ℕ) → y < length l.aiming.graph.now.ids
      → turn_of (against l.aiming.dir) (length l.aiming.graph.now.ids) w y < l.x-index → HasOwnPaths l.aiming w (length l.initial.costs) l.all_costs l.all_links y;
}
