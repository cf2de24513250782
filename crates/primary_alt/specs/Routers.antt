-- Routers of an area.
use Rattle.std.specs.Prelude.{◌≡◌, ℕ, List, Some, slice_get}
use Rattle.std.specs.Option.{option_map}
use Rattle.mrt_graph.specs.declared.node_id.Kind.TheVariants.{Router}
use Rattle.mrt_graph.specs.declared.node_id.NodeId.{NodeId}

-- node number n is a router
abbrev pub IsRouter : List NodeId → ℕ → Type 0
IsRouter ids n = option_map (λ id. id.kind) (slice_get ids n) ≡ Some Router
