-- What a graph with lists of directions says.
use Rattle.std.specs.Prelude.{◌<◌, ℕ, length}
use Rattle.link_direction.specs.Directions.{Directions}
use Rattle.mrt_rows.specs.declared.directed.Rooted.{Rooted}
use Rattle.mrt_rows.specs.ListedDirections.{AreRooted, directions_of}

-- the directions that the lists say of the graph
abbrev pub directions_by : Rooted → Directions
directions_by rooted = directions_of rooted.graph.now rooted.directed.now

-- these are those of a GADAG of the graph from its root, with its order
abbrev pub IsRooted : Rooted → Type 0
IsRooted rooted = AreRooted rooted.graph.now rooted.root rooted.directed.now

-- v is one of the graph's nodes
abbrev pub IsNode : Rooted → ℕ → Type 0
IsNode rooted v = v < length rooted.graph.now.ids
