-- Which sources and nodes a fan is open for.
use Rattle.std.specs.Prelude.{◌≡◌, ◌<◌, ◌≤◌, ◌+◌, ℕ, length}
use Rattle.mrt_graph.specs.Topology.{Topology}
use Rattle.block_spf.specs.FanEntries.{FanEntries}

-- s is one of the sources of a fan that is open from the nodes from number `first` on, and t is a node
pub record AreInFan (g : Topology) (fan : FanEntries) (first s t : ℕ) : Type 0 where
  pub nodes : fan.nodes ≡ length g.ids
  pub source : s < length g.ids
  pub from : first ≤ s
  pub among : s < first + fan.width
  pub target : t < length g.ids
