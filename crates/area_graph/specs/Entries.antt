-- What the LSAs of an area list: the links of routers and the routers of networks (RFC 2328, sections 12.4.1 and
-- 12.4.2).
use Rattle.std.specs.Prelude.{◌++◌, ◌+◌, ◌==◌, ℕ, List, [], ◌∷◌, Option, Some, None, if◌then◌else◌}
use Rattle.std.specs.Option.{option_map, option_to_list}
use Rattle.mrt_graph.specs.declared.node_id.NodeId.{NodeId}
use Rattle.ospf_lsa.specs.declared.lsa.RouterLink.{RouterLink}
use Rattle.ospf_lsa.specs.Types.{point_to_point, transit}
use Rattle.ospf_lsa.specs.declared.lsa.Body.{Body}
use Rattle.ospf_lsa.specs.declared.lsa.Body.TheVariants.{Router, Network, Other}
use Rattle.ospf_lsa.specs.declared.lsa.Lsa.{Lsa}
use Rattle.area_graph.specs.Nodes.{node_of, speakers}
use Rattle.mrt_graph.specs.NodeIds.{router, network}

-- what an LSA lists and leads from its node to another one: a link of a router, or a router of a network; its place is
-- that among all that the LSA lists, from 0
pub record Entry : Type 0 where
  pub from : NodeId
  pub to : NodeId
  pub metric : ℕ
  pub link_data : ℕ
  pub place : ℕ

-- where a link of a router leads: a point-to-point link (type 1) to another router, a link to a transit network (type
-- 2) to that network; any other nowhere
abbrev pub far_of : ℕ → RouterLink → Option NodeId
far_of own link =
    if link.kind == point_to_point then (if link.id == own then None else Some (router link.id))
    else (if link.kind == transit then Some (network link.id) else None)

-- the entry for a link that stands at that place in the LSA of a router, if it leads somewhere
abbrev pub entry_of_link : NodeId → ℕ → RouterLink → Option Entry
entry_of_link from place link =
    option_map (λ to. record { from = from; to = to; metric = link.metric; link_data = link.link_data; place = place })
    (far_of from.number link)

-- the entry for a router that stands at that place in the LSA of a network: it has metric 0 and link data 0
abbrev pub entry_of_listed : NodeId → ℕ → ℕ → Entry
entry_of_listed from place listed = record { from = from; to = router listed; metric = 0; link_data = 0; place = place }

-- the entries for the links of a router from that place on
abbrev pub entries_of_links : NodeId → ℕ → List RouterLink → List Entry
entries_of_links from place [] = []
entries_of_links from place (link ∷ links) =
    option_to_list (entry_of_link from place link) ++ entries_of_links from (place + 1) links

-- the entries for the routers of a network from that place on
abbrev pub entries_of_listed : NodeId → ℕ → List ℕ → List Entry
entries_of_listed from place [] = []
entries_of_listed from place (listed ∷ others) =
    entry_of_listed from place listed ∷ entries_of_listed from (place + 1) others

-- the entries of a node's LSA
abbrev pub entries_of : NodeId → Body → List Entry
entries_of from (Router flags spare links tos) = entries_of_links from 0 links
entries_of from (Network mask routers) = entries_of_listed from 0 routers
entries_of from (Other bytes) = []

-- the entries of LSAs, one LSA after another
abbrev pub entries_in : List Lsa → List Entry
entries_in [] = []
entries_in (lsa ∷ lsas) = entries_of (node_of lsa) lsa.body ++ entries_in lsas

-- the entries of an area: those of the LSAs that speak for its nodes
abbrev pub entries : List Lsa → List Entry
entries lsas = entries_in (speakers lsas)
