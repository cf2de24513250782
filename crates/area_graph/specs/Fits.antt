-- A graph that fits an area.
use Rattle.std.specs.Prelude.{◌≡◌, ◌<◌, ℕ, Bool, true, List, Option, Some, None, length, slice_get, count_by, Contains, false, ◌==◌}
use Rattle.mrt_graph.specs.Topology.{Topology}
use Rattle.mrt_graph.specs.declared.link.Link.{Link}
use Rattle.mrt_graph.specs.declared.node_id.NodeId.{NodeId}
use Rattle.area_graph.specs.declared.area_types.Bond.{Bond}
use Rattle.area_graph.specs.Parts.{AreaParts}

-- whether a bond's entry names that link
abbrev pub names : ℕ → Option ℕ → Bool
names link None = false
names link (Some other) = other == link

-- a bond is the pair that a link stands for: its two nodes in the area are the link's two nodes in the graph
pub record IsPairOf (area : AreaParts) (graph : Topology) (bond : Bond) (link : Link) : Type 0 where
  pub paired : bond.paired ≡ true
  pub id_a : NodeId
  pub a_there : slice_get area.ids bond.a ≡ Some id_a
  pub a_here : slice_get graph.ids link.a ≡ Some id_a
  pub id_b : NodeId
  pub b_there : slice_get area.ids bond.b ≡ Some id_b
  pub b_here : slice_get graph.ids link.b ≡ Some id_b

-- the list has an entry for each bond of the area and names links of the graph alone; each node of the graph is a node
-- of the area; each link is named for exactly one bond, which is a pair with the link's two nodes
pub record Fits (area : AreaParts) (graph : Topology) (link_of : List (Option ℕ)) : Type 0 where
  pub an_entry_each : length link_of ≡ length area.bonds
  pub links_alone : (k e : ℕ) → slice_get link_of k ≡ Some (Some e) → e < length graph.links
  pub nodes : (id : NodeId) → Contains graph.ids id → Contains area.ids id
  pub one_bond_each : (e : ℕ) → e < length graph.links → count_by (names e) link_of ≡ 1
  pub pairs : (k e : ℕ) (bond : Bond) (link : Link) → slice_get link_of k ≡ Some (Some e)
      → slice_get area.bonds k ≡ Some bond → slice_get graph.links e ≡ Some link → IsPairOf area graph bond link
