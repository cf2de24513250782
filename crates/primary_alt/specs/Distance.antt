-- Distances in an area (RFC 2328, section 16.1).
use Rattle.std.specs.Prelude.{◌≡◌, ◌≤◌, ℕ, List}
use Rattle.area_graph.specs.declared.area_types.Arc.{Arc}
use Rattle.primary_alt.specs.ArcWalk.{ArcWalk, cost_of}

-- the distance from s to t: the least cost of a walk. There is none where no walk leads from s to t
pub record IsDistance (arcs : List Arc) (s t distance : ℕ) : Type 0 where
  pub walk : List Arc
  pub leads : ArcWalk arcs s walk t
  pub costs : cost_of walk ≡ distance
  pub least : (other : List Arc) → ArcWalk arcs s other t → distance ≤ cost_of other
