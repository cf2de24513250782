-- A node and the link that it sends over.
use Rattle.std.specs.Prelude.{◌≡◌, ℕ, List, Some, IsSome, length, slice_get}
use Rattle.mrt_graph.specs.Leads.{leads}
use Rattle.mrt_graph.specs.Topology.{Topology}
use Rattle.proxy_rows.specs.declared.proxy_row.Out.{Out}
use Rattle.proxy_rows.specs.declared.proxy_row.Out.TheVariants.{Attached, Link}
use Rattle.proxy_rows.specs.declared.proxy_row.ProxyRow.{ProxyRow}

-- the link that s sends over touches s
abbrev pub Touches : Topology → ℕ → Out → Type 0
Touches g s (Link e) = IsSome (leads g.links e s)
Touches g s Attached = Unit {0}

-- each node has a row, and its links touch the node
pub record AllTouch (g : Topology) (rows : List ProxyRow) : Type 0 where
  pub one_each : length rows ≡ length g.ids
  pub blue : (s : ℕ) (row : ProxyRow) → slice_get rows s ≡ Some row → Touches g s row.blue
  pub red : (s : ℕ) (row : ProxyRow) → slice_get rows s ≡ Some row → Touches g s row.red
