use Rattle.std.proofs.Common.{ℕ, length}
use Rattle.link_direction.specs.Directions.{Directions}
use Rattle.block_spf.specs.HasDirections.{AreDirections}
use Rattle.block_spf.specs.steps.Side.{AreCosts}
use Rattle.block_spf.specs.steps.PathsOverEnds.{AreLeast, AreReady}
use Rattle.block_spf.proofs.paths_over_ends.take_paths.Given as goal

abbrev pub invariant-loop-end : goal.invariant-loop-end
invariant-loop-end l = record {
  most : AreCosts l.costs;
  least : (root : ℕ) (w : Directions) → AreDirections l.aiming.graph.now l.aiming.directed.now root w → AreReady l.aiming w l.own (length l.fn.costs) l.all l.x
      → AreLeast l.aiming w l.own (length l.fn.costs) l.x l.end-items l.end-index l.costs l.links;
}
