-- The island of a router.
use Rattle.std.specs.Prelude.{ℕ, Bool, List, Option}
use Rattle.mrt_graph.specs.NewGraph.{IsGraphOf}
use Rattle.mrt_graph.specs.Topology.{Topology}
use Rattle.area_graph.specs.Parts.{AreaParts}
use Rattle.mrt_island.specs.Policy.{Policy}
use Rattle.mrt_island.specs.Members.{IsInside}
use Rattle.mrt_island.specs.Numbering.{AreLinkNumbers, ids_of, links_of}
use Rattle.mrt_island.specs.Rooting.{IsRoot}

-- the island of a router: its graph, its root, and which bonds of the area are its links
pub record IsIsland (policy : Policy) (area : AreaParts) (router : ℕ) (graph : Topology) (root : ℕ) (link_of : List (Option ℕ)) : Type 0 where
  pub inside : List Bool
  pub those : IsInside policy area router inside
  pub made : IsGraphOf (ids_of area inside) (links_of policy area inside) graph
  pub rooted : IsRoot policy (ids_of area inside) root
  pub numbered : AreLinkNumbers policy area inside link_of
