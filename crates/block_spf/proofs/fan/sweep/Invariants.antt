use Rattle.std.proofs.Common.{◌<◌, ◌+◌, ℕ, length}
use Rattle.link_direction.specs.Directions.{Directions}
use Rattle.block_spf.specs.HasDirections.{AreDirections}
use Rattle.block_spf.specs.steps.Known.{AreLanes, known_at}
use Rattle.block_spf.proofs.LanesSwept.{lane}
use Rattle.block_spf.proofs.PathsSwept.{IsSwept}
use Rattle.block_spf.proofs.fan.sweep.Given as goal

abbrev pub invariant-loop-x : goal.invariant-loop-x
invariant-loop-x l = record {
  lanes : AreLanes l.costs l.places;
  swept : (root j : ℕ) (w : Directions) → AreDirections l.opening.graph.now l.opening.directed.now root w → j < length l.initial.from_costs
      → IsSwept l.opening.graph.now root w l.opening.dir (l.opening.first + j) l.x-index (lane (length l.initial.from_costs) j (known_at l.costs l.places));
}
