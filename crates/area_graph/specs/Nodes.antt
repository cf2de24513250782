-- The nodes of an area, and the LSA that speaks for each (RFC 2328, section 16.1).
use Rattle.std.specs.Prelude.{Bool, not, ◌&&◌, ◌==◌, nat_lt, List, map, if◌then◌else◌}
use Rattle.std.specs.List.{filter, list_any}
use Rattle.std.specs.Ordering.{on}
use Rattle.mrt_graph.specs.NodeOrder.{node_id_cmp}
use Rattle.mrt_graph.specs.declared.node_id.NodeId.{NodeId}
use Rattle.mrt_graph.specs.NodeIds.{router, network}
use Rattle.mrt_graph.specs.SameGraph.{same_id}
use Rattle.mrt_graph.specs.InOrder.{in_order}
use Rattle.ospf_lsa.specs.declared.lsa.Lsa.{Lsa}
use Rattle.ospf_lsa.specs.MaxAge.{is_at_max_age}
use Rattle.ospf_lsa.specs.Types.{router_lsa}

-- the node that an LSA of a database is of: a router for a router-LSA, a network for a network-LSA
abbrev pub node_of : Lsa → NodeId
node_of lsa = if lsa.kind == router_lsa then router lsa.id else network lsa.id

-- the LSAs that are not at MaxAge
abbrev pub live : List Lsa → List Lsa
live lsas = filter (λ lsa. not (is_at_max_age lsa)) lsas

-- whether an LSA is of the same node as this one, and its advertising router is greater
abbrev pub is_above : Lsa → Lsa → Bool
is_above lsa other = same_id (node_of lsa) (node_of other) && nat_lt lsa.router other.router

-- whether an LSA speaks for its node among live ones: of several of one network that of the greatest advertising router
-- does
abbrev pub speaks : List Lsa → Lsa → Bool
speaks lsas lsa = not (list_any (is_above lsa) lsas)

-- the LSAs that speak for the nodes of an area, by ascending node
abbrev pub speakers : List Lsa → List Lsa
speakers lsas = in_order (on node_of node_id_cmp) (filter (speaks (live lsas)) (live lsas))

-- the nodes of an area, by ascending identifier
abbrev pub nodes : List Lsa → List NodeId
nodes lsas = map node_of (speakers lsas)
