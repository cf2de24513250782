-- The graph with one more node, which is attached to two routers. It is a destination alone: no packet passes through it.
use Rattle.std.specs.Prelude.{◌≡◌, ◌==◌, ◌+◌, ◌++◌, ℕ, List, [], ◌∷◌, Some, length, slice_get, if◌then◌else◌}
use Rattle.mrt_graph.specs.declared.cert.Row.{Row}
use Rattle.mrt_graph.specs.declared.link.Link.{Link}
use Rattle.mrt_graph.specs.Rows.{Rows}
use Rattle.mrt_graph.specs.Topology.{Topology}
use Rattle.proxy_rows.specs.declared.attachment.Attachment.{Attachment}
use Rattle.proxy_rows.specs.declared.proxy_row.Out.{Out}
use Rattle.proxy_rows.specs.declared.proxy_row.Out.TheVariants as outs
use Rattle.proxy_rows.specs.declared.proxy_row.ProxyRow.{ProxyRow}

-- the new node's number, which comes after those of the graph's nodes
abbrev pub new_node : Topology → ℕ
new_node g = length g.ids

-- the links of the graph, then one between the router with the lower order and the new node, then one between the other
-- router and the new node
abbrev pub links_with : Topology → Attachment → List Link
links_with g at =
    g.links ++ record { a = at.lower; b = new_node g } ∷ record { a = at.upper; b = new_node g } ∷ []

-- the link that a node sends over: where it is attached, its own link to the new node
abbrev pub link_out : Topology → Attachment → ℕ → Out → ℕ
link_out g at s (outs.Link e) = e
link_out g at s outs.Attached = if s == at.lower then length g.links else length g.links + 1

-- rows in the graph with the new node give node s this row for it
pub record IsRowWith (g : Topology) (at : Attachment) (rows : Rows) (s : ℕ) (entry : ProxyRow) : Type 0 where
  pub row : Row
  pub there : rows s (new_node g) ≡ Some row
  pub blue : row.blue ≡ link_out g at s entry.blue
  pub red : row.red ≡ link_out g at s entry.red

-- and each node of the graph these
abbrev pub AreRowsWith : Topology → Attachment → List ProxyRow → Rows → Type 0
AreRowsWith g at entries rows =
    (s : ℕ) (entry : ProxyRow) → slice_get entries s ≡ Some entry → IsRowWith g at rows s entry
