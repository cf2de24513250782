-- The certificate of a graph and its root.
use Rattle.std.specs.Prelude.{◌≡◌, ◌≢◌, ◌<◌, ◌*◌, ◌-◌, ℕ, List, Some, length, slice_get}
use Rattle.mrt_graph.specs.declared.cert.CertFile.{CertFile}
use Rattle.mrt_graph.specs.declared.cert.CertLink.{CertLink}
use Rattle.mrt_graph.specs.declared.cert.CertNode.{CertNode}
use Rattle.mrt_graph.specs.declared.link.Link.{Link}
use Rattle.mrt_graph.specs.declared.node_id.NodeId.{NodeId}
use Rattle.mrt_graph.specs.declared.tree.TreeNode.{TreeNode}
use Rattle.mrt_graph.specs.Certificate.{Certificate, row_of}
use Rattle.mrt_graph.specs.DirectedLists.{DirectedLists}
use Rattle.mrt_graph.specs.GadagLists.{GadagLists}
use Rattle.mrt_graph.specs.Topology.{Topology}
use Rattle.lowpoint_dfs.specs.SearchTree.{IsSearchTree}
use Rattle.gadag_ears.specs.Gadag.{IsGadag}
use Rattle.link_direction.specs.Directed.{IsDirected}
use Rattle.link_direction.specs.Directions.{Directions, Says}
use Rattle.mrt_rows.specs.RowsOf.{HasRow}

-- of a node: its identifier in the graph, its order number, its head and its block
abbrev pub node_words : Directions → ℕ → NodeId → CertNode
node_words w a id = record { id = id; order = w.order a; head = w.head a; block = w.block a }

-- of a link: its two nodes in the graph, its block and its role
abbrev pub link_words : Directions → ℕ → Link → CertLink
link_words w e link = record { a = link.a; b = link.b; block = w.lies_in e; role = w.role e }

-- the words on all nodes, and on all links
pub record AreNodeWords (g : Topology) (w : Directions) (nodes : List CertNode) : Type 0 where
  pub one_each : length nodes ≡ length g.ids
  pub each : (a : ℕ) (id : NodeId) → slice_get g.ids a ≡ Some id → slice_get nodes a ≡ Some (node_words w a id)

pub record AreLinkWords (g : Topology) (w : Directions) (links : List CertLink) : Type 0 where
  pub one_each : length links ≡ length g.links
  pub each : (e : ℕ) (link : Link) → slice_get g.links e ≡ Some link → slice_get links e ≡ Some (link_words w e link)

-- a file says this of the graph: it has version 2, and its root is the number of the graph's root; it has the words on each
-- node and on each link, and a row of each node for each other one, by the table
pub record Tells (g : Topology) (root : ℕ) (w : Directions) (file : CertFile) : Type 0 where
  pub version : file.version ≡ 2
  pub root_number : (id : NodeId) → slice_get g.ids root ≡ Some id → file.root ≡ id.number
  pub nodes : AreNodeWords g w file.cert.nodes
  pub links : AreLinkWords g w file.cert.links
  pub row_count : length file.cert.rows ≡ length g.ids * (length g.ids - 1)
  pub rows : (s t : ℕ) → s < length g.ids → t < length g.ids → s ≢ t → HasRow g root w s (row_of file.cert s) t

-- a certificate, as a file of version 2 with the number of a root
abbrev pub file_of : NodeId → Certificate → CertFile
file_of id cert = record { version = 2; root = id.number; cert = cert }

-- the certificate of a graph and its root: by its search tree, the ears of this tree, and their order
pub record IsCertOf (g : Topology) (root : ℕ) (file : CertFile) : Type 0 where
  pub tree : List TreeNode
  pub searched : IsSearchTree g root tree
  pub gadag : GadagLists
  pub by_ears : IsGadag g root tree gadag
  pub directed : DirectedLists
  pub in_order : IsDirected g root gadag directed
  pub words : Directions
  pub says : Says g directed words
  pub tells : Tells g root words file
