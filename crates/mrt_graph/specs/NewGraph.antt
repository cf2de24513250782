-- What a graph is made of, and the graph that is made.
use Rattle.std.specs.Prelude.{◌≡◌, ◌<◌, ◌≤◌, ◌-◌, ◌^◌, ◌⊎◌, ℕ, List, Some, length, map, min, slice_get}
use Rattle.std.specs.List.{AllByRecursion}
use Rattle.std.specs.List.Sorted.{IsPermutation, IsSorted, IsStrictlySortedBy}
use Rattle.std.specs.Ordering.{nat_cmp, on, then_cmp}
use Rattle.std.specs.declared.cmp.Ordering.{Ordering}
use Rattle.mrt_graph.specs.declared.graph_error.GraphError.{GraphError}
use Rattle.mrt_graph.specs.declared.graph_error.GraphError.TheVariants.{TooLarge}
use Rattle.mrt_graph.specs.declared.link.End.{End}
use Rattle.mrt_graph.specs.declared.link.Link.{Link}
use Rattle.mrt_graph.specs.declared.link.LinkIn.{LinkIn}
use Rattle.mrt_graph.specs.declared.node_id.NodeId.{NodeId}
use Rattle.mrt_graph.specs.Connected.{IsConnected}
use Rattle.mrt_graph.specs.EndsOfLinks.{ends_at, pair_of}
use Rattle.mrt_graph.specs.GraphInvariant.{IsLink}
use Rattle.mrt_graph.specs.InterfaceOrder.{interface_cmp}
use Rattle.mrt_graph.specs.NodeOrder.{node_id_cmp}
use Rattle.mrt_graph.specs.Topology.{Topology}

-- links are numbered by their lower node, then by their higher node
abbrev pub pair_cmp : Link → Link → Ordering
pair_cmp = then_cmp (on (λ link. link.a) nat_cmp) (on (λ link. link.b) nat_cmp)

-- identifiers and links of which a graph can be made: identifiers ascend, and there is one; each link has its lower node
-- first, in range, and joins no two networks; links ascend, and connect all nodes
pub record AreGraphParts (ids : List NodeId) (links : List LinkIn) : Type 0 where
  pub some_node : 1 ≤ length ids
  pub ids_ascend : IsStrictlySortedBy node_id_cmp ids
  pub links_between : AllByRecursion (IsLink ids) (map pair_of links)
  pub links_ascend : IsSorted pair_cmp (map pair_of links)
  pub connected : IsConnected (length ids) (map pair_of links)

-- more nodes or links than a graph holds: 4,096 and 16,384
abbrev pub IsTooLarge : ℕ → ℕ → Type 0
IsTooLarge nodes links = (4096 < nodes) ⊎ (16384 < links)

-- the answer where they are too many: both counts, each told as a number of 32 bits, the greatest one where it is greater
abbrev pub too_large : ℕ → ℕ → GraphError
too_large nodes links = TooLarge (min nodes (2 ^ 32 - 1)) (min links (2 ^ 32 - 1))

-- the same ends, in interface order; no two ends of a node are on one link, so that there is one such list
pub record AreInOrder (ends ordered : List End) : Type 0 where
  pub same : IsPermutation ends ordered
  pub ascending : IsSorted interface_cmp ordered

-- for each of that many nodes a list: the ends that the links give it, in interface order
pub record AreEndLists (count : ℕ) (links : List LinkIn) (lists : List (List End)) : Type 0 where
  pub a_list_each : length lists ≡ count
  pub ends : (n : ℕ) (ends : List End) → slice_get lists n ≡ Some ends → AreInOrder (ends_at n 0 links) ends

-- the graph of these identifiers and links
pub record IsGraphOf (ids : List NodeId) (links : List LinkIn) (graph : Topology) : Type 0 where
  pub same_ids : graph.ids ≡ ids
  pub same_links : graph.links ≡ map pair_of links
  pub end_lists : AreEndLists (length ids) links graph.ends
