-- Connected graphs.
use Rattle.std.specs.Prelude.{◌<◌, ℕ, List}
use Rattle.mrt_graph.specs.declared.link.Link.{Link}
use Rattle.mrt_graph.specs.Walk.{Walk}

-- from each of that many nodes a walk leads to each
abbrev pub IsConnected : ℕ → List Link → Type 0
IsConnected count links = (s t : ℕ) → s < count → t < count → (walk : List ℕ) × Walk links s walk t
