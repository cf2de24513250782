-- The first rule: the certificate speaks of this graph.
use Rattle.std.specs.Prelude.{◌≡◌, ◌==◌, ◌&&◌, ℕ, Bool, length, slice_get}
use Rattle.mrt_graph.specs.declared.node_id.NodeId.{NodeId}
use Rattle.mrt_graph.specs.BothThere.{both}
use Rattle.mrt_graph.specs.Certificate.{Certificate}
use Rattle.mrt_graph.specs.NodeOrder.{rank_of}
use Rattle.mrt_graph.specs.Places.{Each, IsFirst}
use Rattle.mrt_graph.specs.Topology.{Topology}

-- the counts of nodes and links are the graph's
pub record SameCounts (g : Topology) (c : Certificate) : Type 0 where
  pub nodes : length c.nodes ≡ length g.ids
  pub links : length c.links ≡ length g.links

-- two identifiers have one number and one kind
abbrev pub same_id : NodeId → NodeId → Bool
same_id x y = (x.number == y.number) && (rank_of x.kind == rank_of y.kind)

-- node a's identifier is the graph's
abbrev pub same_node : Topology → Certificate → ℕ → Bool
same_node g c a = both (λ id node. same_id id node.id) (slice_get g.ids a) (slice_get c.nodes a)

-- link e's two nodes are the graph's
abbrev pub same_link : Topology → Certificate → ℕ → Bool
same_link g c e =
    both (λ link words. (link.a == words.a) && (link.b == words.b)) (slice_get g.links e) (slice_get c.links e)

-- the counts of nodes and links are the graph's; each node's identifier is; each link's two nodes are
pub record SameGraph (g : Topology) (c : Certificate) : Type 0 where
  pub counts : SameCounts g c
  pub nodes : Each (same_node g c) (length c.nodes)
  pub links : Each (same_link g c) (length c.links)

-- its faults: other counts, at 0 and 2; else the least node with another identifier, and 0; else the least link with
-- other nodes, and 1
pub data GraphFault (g : Topology) (c : Certificate) : ℕ → ℕ → Type 0 where
  OtherCounts : (SameCounts g c → ⊥) → GraphFault g c 0 2
  OtherNode : (a : ℕ) → SameCounts g c → IsFirst (same_node g c) (length c.nodes) a → GraphFault g c a 0
  OtherLink : (e : ℕ) → SameCounts g c → Each (same_node g c) (length c.nodes)
      → IsFirst (same_link g c) (length c.links) e → GraphFault g c e 1
