-- What a tile is aimed by.
use Rattle.std.specs.Prelude.{◌≡◌, ◌*◌, ℕ, length}
use Rattle.mrt_graph.specs.GraphInvariant.{IsTopology}
use Rattle.link_direction.specs.Directions.{Directions}
use Rattle.block_spf.specs.declared.aiming.Aiming.{Aiming}
use Rattle.block_spf.specs.Against.{against}
use Rattle.block_spf.specs.HasDirections.{AreDirections, HasDirections}
use Rattle.block_spf.specs.Turns.{AreTurns}

-- a graph with its directions, its nodes by the turns of the other direction, so many aims of each block, and marks on the
-- blocks that are wanted
pub record IsAiming (aiming : Aiming) (width : ℕ) : Type 0 where
  pub kept : IsTopology aiming.graph.now
  pub directed : HasDirections aiming.graph.now aiming.directed.now
  pub turns : (root : ℕ) (w : Directions) → AreDirections aiming.graph.now aiming.directed.now root w
      → AreTurns aiming.graph.now w (against aiming.dir) aiming.turns.now
  pub aims : length aiming.aims.now ≡ length aiming.graph.now.ids * width
  pub a_mark_each : length aiming.wanted.now ≡ length aiming.graph.now.ids
