-- What is read once for many rows, and where a row is asked for.
use Rattle.std.specs.Prelude.{◌≡◌, ◌<◌, ◌≢◌, ℕ, Bool, Option, Some, IfSome, length, slice_get}
use Rattle.cert_checker.specs.declared.known_node.KnownNode.{KnownNode}
use Rattle.cert_checker.specs.declared.hops.Hop.{Hop}
use Rattle.cert_checker.specs.declared.hops.Hops.{Hops}
use Rattle.mrt_graph.specs.declared.cert.Row.{Row}
use Rattle.mrt_graph.specs.declared.cert.Tag.{Tag}
use Rattle.mrt_graph.specs.declared.cert.Tag.TheVariants.{Carried}
use Rattle.mrt_graph.specs.BothThere.{both}
use Rattle.mrt_graph.specs.Certificate.{Certificate, IsCertRow}
use Rattle.mrt_graph.specs.steps.RowRules.{carried_row, near_row}
use Rattle.mrt_graph.specs.Leads.{leads}
use Rattle.mrt_graph.specs.Topology.{Topology}

-- a node of the certificate, with its words on it and its rows
pub record IsKnown (c : Certificate) (node : KnownNode) : Type 0 where
  pub within : node.number < length c.nodes
  pub words : slice_get c.nodes node.number ≡ Some node.words
  pub rows : node.rows ≡ record { cert = c; node = node.number }

-- the link leads from s to a node, and that node is known
pub record IsHop (g : Topology) (c : Certificate) (s : ℕ) (hop : Hop) : Type 0 where
  pub link_leads : leads g.links hop.link s ≡ Some hop.to.number
  pub known : IsKnown c hop.to

-- each hop that is kept is one from s
pub record AreHops (g : Topology) (c : Certificate) (s : ℕ) (hops : Hops) : Type 0 where
  pub blue : IfSome hops.blue (λ hop. IsHop g c s hop)
  pub red : IfSome hops.red (λ hop. IsHop g c s hop)

-- s and t are two nodes of the certificate, and the row's links are in range
pub record IsRowAt (c : Certificate) (s : KnownNode) (t : ℕ) (row : Row) : Type 0 where
  pub source : IsKnown c s
  pub target : t < length c.nodes
  pub different : s.number ≢ t
  pub links : IsCertRow (length c.links) row

-- s, t, blue and red are nodes of the certificate, and the row's links are in range
pub record IsNearRowAt (c : Certificate) (s : KnownNode) (t : ℕ) (row : Row) (blue red : KnownNode) : Type 0 where
  pub source : IsKnown c s
  pub target : t < length c.nodes
  pub links : IsCertRow (length c.links) row
  pub blue_known : IsKnown c blue
  pub red_known : IsKnown c red

-- what a row with this tag keeps, where its links lead to blue and red
abbrev pub rule_by : Tag → Certificate → ℕ → ℕ → ℕ → Row → Option ℕ → Option ℕ → Bool
rule_by Carried c root s t row blue red = carried_row c root s t row
rule_by tag c root s t row blue red = both (near_row tag c s t row) blue red
