-- What each graph keeps.
use Rattle.std.specs.Prelude.{◌≡◌, ◌==◌, ◌<◌, ◌≤◌, ◌^◌, ℕ, List, Some, length, slice_get, count_by}
use Rattle.std.specs.List.{AllByRecursion}
use Rattle.std.specs.List.Sorted.{IsSorted, IsStrictlySortedBy}
use Rattle.std.specs.Option.{option_map}
use Rattle.mrt_graph.specs.declared.link.End.{End}
use Rattle.mrt_graph.specs.declared.link.Link.{Link}
use Rattle.mrt_graph.specs.declared.node_id.Kind.TheVariants.{Network}
use Rattle.mrt_graph.specs.declared.node_id.NodeId.{NodeId}
use Rattle.mrt_graph.specs.Connected.{IsConnected}
use Rattle.mrt_graph.specs.InterfaceOrder.{interface_cmp}
use Rattle.mrt_graph.specs.Leads.{leads}
use Rattle.mrt_graph.specs.NodeOrder.{node_id_cmp}
use Rattle.mrt_graph.specs.Topology.{Topology}

-- node number n is a network
abbrev pub IsNetwork : List NodeId → ℕ → Type 0
IsNetwork ids n = option_map (λ id. id.kind) (slice_get ids n) ≡ Some Network

-- a link between two nodes: different ones, the lower one first, and a network's other node is a router
pub record IsLink (ids : List NodeId) (link : Link) : Type 0 where
  pub ascending : link.a < link.b
  pub upper : link.b < length ids
  pub not_both_networks : IsNetwork ids link.a → ¬ IsNetwork ids link.b

-- of that many nodes, an end of node n: its link leads from n to the node that it names
pub record IsEnd (count : ℕ) (links : List Link) (n : ℕ) (end : End) : Type 0 where
  pub leads_on : leads links end.link n ≡ Some end.to
  pub link : end.link < length links
  pub to : end.to < count
  pub metric : end.metric < 2 ^ 16
  pub link_data : end.link_data < 2 ^ 32

-- the ends of node n: one for each link that touches n, and no others, in interface order
pub record AreEnds (count : ℕ) (links : List Link) (n : ℕ) (ends : List End) : Type 0 where
  pub kept : AllByRecursion (IsEnd count links n) ends
  pub one_each : (e v : ℕ) → leads links e n ≡ Some v → count_by (λ end. end.link == e) ends ≡ 1
  pub ordered : IsSorted interface_cmp ends
  pub few : length ends ≤ length links

-- what each graph keeps: 1 to 4,096 nodes by ascending identifier, at most 16,384 links, the ends of each node; it is
-- connected
pub record IsTopology (graph : Topology) : Type 0 where
  pub some_node : 1 ≤ length graph.ids
  pub few_nodes : length graph.ids ≤ 4096
  pub few_links : length graph.links ≤ 16384
  pub ids_ascend : IsStrictlySortedBy node_id_cmp graph.ids
  pub links_kept : AllByRecursion (IsLink graph.ids) graph.links
  pub a_list_each : length graph.ends ≡ length graph.ids
  pub ends_kept : (n : ℕ) (ends : List End) → slice_get graph.ends n ≡ Some ends → AreEnds (length graph.ids) graph.links n ends
  pub connected : IsConnected (length graph.ids) graph.links
