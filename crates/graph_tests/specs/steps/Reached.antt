-- Nodes that links join to the first one.
use Rattle.std.specs.Prelude.{ℕ, Bool, List}
use Rattle.mrt_graph.specs.declared.link.Link.{Link}
use Rattle.mrt_graph.specs.Search.{IsMarked}
use Rattle.mrt_graph.specs.Walk.{Walk}

-- a walk leads from node 0 to each node that has its mark
abbrev pub AreReached : List Link → List Bool → Type 0
AreReached links marks = (v : ℕ) → IsMarked marks v → (walk : List ℕ) × Walk links 0 walk v
