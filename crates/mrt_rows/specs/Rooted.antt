-- The columns of a graph from a root.
use Rattle.std.specs.Prelude.{◌≡◌, ℕ}
use Rattle.mrt_graph.specs.Topology.{Topology}
use Rattle.mrt_rows.specs.DirectedFrom.{IsDirectedFrom}
use Rattle.mrt_rows.specs.AimedColumns.{AreAimed, AreColumns}
use Rattle.mrt_rows.specs.RootedParts.{RootedParts}
use Rattle.mrt_rows.specs.ListedDirections.{AreRooted, directions_of}

-- these make the columns of the graph from their root: by its directions, and by what is held between columns
pub record MakeColumns (g : Topology) (parts : RootedParts) : Type 0 where
  pub rooted : AreRooted g parts.root parts.directed
  pub directed : IsDirectedFrom g parts.root parts.directed
  pub held : AreColumns g parts.root (directions_of g parts.directed) parts.columns

-- and they are aimed at t
pub record AreAimedAt (g : Topology) (t : ℕ) (parts : RootedParts) : Type 0 where
  pub made : MakeColumns g parts
  pub is : parts.to.node ≡ t
  pub aimed : AreAimed g parts.root parts.directed parts.columns parts.to
