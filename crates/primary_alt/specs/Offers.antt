-- Networks of an area.
use Rattle.std.specs.Prelude.{ℕ, Bool, true, false, List, slice_get}
use Rattle.std.specs.Option.{option_map_or}
use Rattle.mrt_graph.specs.declared.node_id.Kind.{Kind}
use Rattle.mrt_graph.specs.declared.node_id.Kind.TheVariants.{Network, Router}
use Rattle.mrt_graph.specs.declared.node_id.NodeId.{NodeId}

-- a network's kind
abbrev pub is_networks : Kind → Bool
is_networks Router = false
is_networks Network = true

-- node number n is a network
abbrev pub is_network : List NodeId → ℕ → Bool
is_network ids n = option_map_or (λ id. is_networks id.kind) (slice_get ids n) false
