-- The directions of a graph.
use Rattle.std.specs.Prelude.{ℕ}
use Rattle.link_direction.specs.Directions.{Directions, Says}
use Rattle.link_direction.specs.OrderedGadag.{IsOrderedGadag}
use Rattle.mrt_graph.specs.DirectedLists.{DirectedLists}
use Rattle.mrt_graph.specs.Topology.{Topology}

-- d says these directions, and they are those of a GADAG of the graph with its order
pub record AreDirections (g : Topology) (d : DirectedLists) (root : ℕ) (w : Directions) : Type 0 where
  pub says : Says g d w
  pub ordered : IsOrderedGadag g root w

-- d says the directions of a GADAG of the graph, from some root
pub record HasDirections (g : Topology) (d : DirectedLists) : Type 0 where
  pub root : ℕ
  pub directions : Directions
  pub are : AreDirections g d root directions
