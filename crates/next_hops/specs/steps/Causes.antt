-- Which destinations have no next hops.
use Rattle.std.specs.Prelude.{ℕ, List, Contains}
use Rattle.mrt_graph.specs.NodeIds.{router}
use Rattle.mrt_graph.specs.declared.node_id.NodeId.{NodeId}
use Rattle.next_hops.specs.declared.failure.Failure.{Failure}
use Rattle.next_hops.specs.declared.failure.Failure.TheVariants.{NotThere, NoMemory}

-- the destination is none of these nodes, or there was no memory
abbrev pub IsMissed : List NodeId → ℕ → Failure → Type 0
IsMissed ids other NotThere = Contains ids (router other) → ⊥
IsMissed ids other NoMemory = Unit {0}
IsMissed ids other failure = ⊥
