-- The two next hops of a router for another one.
use Rattle.std.specs.Prelude.{◌≡◌, ℕ, List, [], Option, Some, length, slice_get}
use Rattle.area_graph.specs.AreaOf.{area_of}
use Rattle.mrt_graph.specs.NodeIds.{router}
use Rattle.lsdb.specs.Database.{IsDatabase}
use Rattle.mrt_graph.specs.declared.cert.CertFile.{CertFile}
use Rattle.mrt_graph.specs.declared.cert.Color.{Color}
use Rattle.mrt_graph.specs.declared.cert.Color.TheVariants.{Blue, Red}
use Rattle.mrt_graph.specs.declared.node_id.NodeId.{NodeId}
use Rattle.mrt_graph.specs.Hop.{Hop, color_hop}
use Rattle.mrt_graph.specs.Rows.{Rows}
use Rattle.mrt_graph.specs.Certificate.{row_of}
use Rattle.mrt_graph.specs.Sound.{Sound}
use Rattle.mrt_graph.specs.Topology.{Topology}
use Rattle.mrt_island.specs.IslandOf.{IsIsland}
use Rattle.mrt_island.specs.Policy.{policy_of}
use Rattle.ospf_lsa.specs.declared.lsa.Lsa.{Lsa as Advertisement}
use Rattle.mrt_rows.specs.CertOf.{IsCertOf}
use Rattle.next_hops.specs.declared.next_hops.NextHops.{NextHops}

-- by these rows a packet for t on this color goes from s to the node of this identifier
pub record IsNextHop (g : Topology) (rows : Rows) (color : Color) (s t : ℕ) (id : NodeId) : Type 0 where
  pub hop : Hop
  pub next : color_hop g.links rows color t s ≡ Some hop
  pub named : slice_get g.ids hop.to ≡ Some id

-- the next hops of a router for another one in a graph, by the rows of the graph's certificate from the root, which are sound
pub record AreNextHopsIn (g : Topology) (root number other : ℕ) (hops : NextHops) : Type 0 where
  pub file : CertFile
  pub certificate : IsCertOf g root file
  pub sound : Sound g.links (length g.ids) (row_of file.cert)
  pub s : ℕ
  pub source : slice_get g.ids s ≡ Some (router number)
  pub t : ℕ
  pub target : slice_get g.ids t ≡ Some (router other)
  pub blue : IsNextHop g (row_of file.cert) Blue s t hops.blue
  pub red : IsNextHop g (row_of file.cert) Red s t hops.red

-- the bytes are a database, and the router's island in its area has this graph and this root
pub record HasIsland (bytes : List ℕ) (number : ℕ) (graph : Topology) (root : ℕ) : Type 0 where
  pub newest : List Advertisement
  pub database : IsDatabase bytes newest
  pub link_of : List (Option ℕ)
  pub island : IsIsland (policy_of []) (area_of newest) number graph root link_of

-- the bytes are a database, and the next hops are those in the router's island
pub record AreNextHops (bytes : List ℕ) (number other : ℕ) (hops : NextHops) : Type 0 where
  pub graph : Topology
  pub root : ℕ
  pub island : HasIsland bytes number graph root
  pub there : AreNextHopsIn graph root number other hops
