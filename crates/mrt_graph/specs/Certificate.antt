-- What a certificate holds, and what each certificate keeps.
use Rattle.std.specs.Prelude.{◌≡◌, ◌==◌, ◌<◌, ◌≤◌, ◌*◌, ◌-◌, ◌&&◌, ℕ, Bool, List, Option, None, length, not, nat_lt, slice_get, if◌then◌else◌}
use Rattle.std.specs.List.{AllByRecursion}
use Rattle.mrt_graph.specs.declared.cert.CertNode.{CertNode}
use Rattle.mrt_graph.specs.declared.cert.CertLink.{CertLink}
use Rattle.mrt_graph.specs.declared.cert.Row.{Row}
use Rattle.mrt_graph.specs.RowPlace.{place_of_row}

-- the nodes, the links and the rows, each by number
pub record Certificate : Type 0 where
  pub nodes : List CertNode
  pub links : List CertLink
  pub rows : List Row

abbrev pub certificate_of : List CertNode → List CertLink → List Row → Certificate
certificate_of nodes links rows = record { nodes = nodes; links = links; rows = rows }

-- of n nodes, a node: its order is from 1 to n, its head and its block are nodes
pub record IsCertNode (n : ℕ) (node : CertNode) : Type 0 where
  pub order_from_one : 1 ≤ node.order
  pub order_to_n : node.order ≤ n
  pub head : node.head < n
  pub block : node.block < n

-- of n nodes, a link: its two nodes are different ones, the lower one first, and its block is one
pub record IsCertLink (n : ℕ) (link : CertLink) : Type 0 where
  pub ascending : link.a < link.b
  pub upper : link.b < n
  pub block : link.block < n

-- of m links, a row: blue and red are links
pub record IsCertRow (m : ℕ) (row : Row) : Type 0 where
  pub blue : row.blue < m
  pub red : row.red < m

-- what each certificate keeps: 1 to 65,535 nodes, at most 65,535 links, a row for each node and each other one, every
-- number in range
pub record IsCertificate (c : Certificate) : Type 0 where
  pub some_node : 1 ≤ length c.nodes
  pub few_nodes : length c.nodes ≤ 65535
  pub few_links : length c.links ≤ 65535
  pub a_row_each : length c.rows ≡ length c.nodes * (length c.nodes - 1)
  pub nodes_kept : AllByRecursion (IsCertNode (length c.nodes)) c.nodes
  pub links_kept : AllByRecursion (IsCertLink (length c.nodes)) c.links
  pub rows_kept : AllByRecursion (IsCertRow (length c.links)) c.rows

-- s and t are two of n nodes
abbrev pub are_two : ℕ → ℕ → ℕ → Bool
are_two n s t = nat_lt s n && (nat_lt t n && not (s == t))

-- the row of s for t; none where s is t, or one of them is no node
abbrev pub row_of : Certificate → ℕ → ℕ → Option Row
row_of c s t =
    if are_two (length c.nodes) s t then slice_get c.rows (place_of_row (length c.nodes) s t) else None
