-- The GADAG root of an island (RFC 7811, section 5.3).
use Rattle.std.specs.Prelude.{◌≡◌, ◌<◌, ◌≤◌, ◌⊎◌, ℕ, List, Some, slice_get}
use Rattle.mrt_graph.specs.declared.node_id.Kind.TheVariants as kinds
use Rattle.mrt_graph.specs.declared.node_id.NodeId.{NodeId}
use Rattle.mrt_island.specs.Policy.{Policy}

-- a router is chosen before another: it has the lower priority number, or the same and the higher router ID; or it is that router
abbrev pub IsChosenBefore : Policy → ℕ → ℕ → Type 0
IsChosenBefore policy router other =
    (policy.priority router < policy.priority other) ⊎ ((policy.priority router ≡ policy.priority other) × (other ≤ router))

-- the root: a router, chosen before each router
pub record IsRoot (policy : Policy) (ids : List NodeId) (node : ℕ) : Type 0 where
  pub id : NodeId
  pub there : slice_get ids node ≡ Some id
  pub router : id.kind ≡ kinds.Router
  pub first : (k : ℕ) (other : NodeId) → slice_get ids k ≡ Some other → other.kind ≡ kinds.Router → IsChosenBefore policy id.number other.number
