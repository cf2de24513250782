-- The first of a node's ends that has what is asked for.
use Rattle.std.specs.Prelude.{◌≡◌, ◌<◌, ℕ, List, Some, slice_get}
use Rattle.mrt_graph.specs.declared.link.End.{End}
use Rattle.mrt_graph.specs.Topology.{Topology}

-- end number `place` of node v, counted from 0 in interface order, has what is asked for, and none before it has
pub record IsFirstEnd (g : Topology) (Asked : End → Type 0) (v : ℕ) (end : End) : Type 0 where
  pub ends : List End
  pub list : slice_get g.ends v ≡ Some ends
  pub place : ℕ
  pub there : slice_get ends place ≡ Some end
  pub asked : Asked end
  pub none_before : (k : ℕ) (other : End) → k < place → slice_get ends k ≡ Some other → ¬ Asked other
