-- The turns of the nodes in the sweep.
use Rattle.std.specs.Prelude.{◌≡◌, ◌<◌, ◌-◌, ℕ, List, Some, length, slice_get}
use Rattle.mrt_graph.specs.Topology.{Topology}
use Rattle.link_direction.specs.Directions.{Directions}
use Rattle.block_spf.specs.declared.reach.Dir.{Dir}
use Rattle.block_spf.specs.declared.reach.Dir.TheVariants.{Down, Up}

-- of n nodes, which turn a node of this order has, counted from 0: up, by ascending order; down, by descending order
abbrev pub turn_at : Dir → ℕ → ℕ → ℕ
turn_at Up n order = order - 1
turn_at Down n order = n - order

-- and which turn node v has
abbrev pub turn_of : Dir → ℕ → Directions → ℕ → ℕ
turn_of dir n w v = turn_at dir n (w.order v)

-- the nodes by their turns
pub record AreTurns (g : Topology) (w : Directions) (dir : Dir) (turns : List ℕ) : Type 0 where
  pub one_each : length turns ≡ length g.ids
  pub of_each : (v : ℕ) → v < length g.ids → slice_get turns (turn_of dir (length g.ids) w v) ≡ Some v
  pub within : (i v : ℕ) → slice_get turns i ≡ Some v → v < length g.ids
  pub by_turn : (i v : ℕ) → slice_get turns i ≡ Some v → turn_of dir (length g.ids) w v ≡ i
