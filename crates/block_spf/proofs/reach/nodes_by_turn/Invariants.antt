use Rattle.std.proofs.Common.{◌≡◌, ℕ, length}
use Rattle.link_direction.specs.Directions.{Directions}
use Rattle.block_spf.specs.HasDirections.{AreDirections}
use Rattle.block_spf.proofs.ByTurn.{AreSet}
use Rattle.block_spf.proofs.reach.nodes_by_turn.Given as goal

abbrev pub invariant-loop-n : goal.invariant-loop-n
invariant-loop-n l = record {
  one_each : length l.turns.items ≡ length l.g.ids;
  nodes : l.count ≡ length l.g.ids;
  first : (root : ℕ) (w : Directions) → AreDirections l.g l.d root w → AreSet l.g w l.dir l.n l.turns.items;
}
