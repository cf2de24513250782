-- How node identifiers are ordered.
use Rattle.std.specs.Prelude.{ℕ}
use Rattle.std.specs.declared.cmp.Ordering.{Ordering}
use Rattle.std.specs.Ordering.{nat_cmp, on, then_cmp}
use Rattle.mrt_graph.specs.declared.node_id.Kind.{Kind}
use Rattle.mrt_graph.specs.declared.node_id.Kind.TheVariants.{Router, Network}
use Rattle.mrt_graph.specs.declared.node_id.NodeId.{NodeId}

-- a router comes before a network
abbrev pub rank_of : Kind → ℕ
rank_of Router = 0
rank_of Network = 1

-- by number, and at one number by kind
abbrev pub node_id_cmp : NodeId → NodeId → Ordering
node_id_cmp = then_cmp (on (λ id. id.number) nat_cmp) (on (λ id. rank_of id.kind) nat_cmp)
