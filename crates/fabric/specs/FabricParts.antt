-- What the steps of packets read.
use Rattle.std.specs.Prelude.{◌≡◌, ℕ, List, Option, Some, slice_get}
use Rattle.std.specs.Option.{option_and_then, option_map}
use Rattle.area_graph.specs.AreaInvariant.{IsArea}
use Rattle.area_graph.specs.Fits.{Fits}
use Rattle.mrt_graph.specs.NodeIds.{number_of}
use Rattle.area_graph.specs.Parts.{AreaParts}
use Rattle.fabric.specs.declared.event.Failure.{Failure}
use Rattle.fabric.specs.declared.event.Failure.TheVariants as failures
use Rattle.mrt_graph.specs.AcceptedFor.{IsAcceptedFor}
use Rattle.mrt_graph.specs.Certificate.{Certificate, row_of}
use Rattle.mrt_graph.specs.GraphInvariant.{IsTopology}
use Rattle.mrt_graph.specs.Rows.{AreSameFor, Rows}
use Rattle.mrt_graph.specs.Topology.{Topology}
use Rattle.mrt_graph.specs.declared.link.Element.{Element}
use Rattle.mrt_graph.specs.declared.link.Element.TheVariants as elements

-- the area; the island; the rows of the island's nodes; and the island link that each bond of the area is, if it is one
pub record FabricParts : Type 0 where
  pub area : AreaParts
  pub island : Topology
  pub rows : Rows
  pub link_of : List (Option ℕ)

-- the island fits the area by the list of links
pub record ArePartsKept (parts : FabricParts) : Type 0 where
  pub area_kept : IsArea parts.area
  pub island_kept : IsTopology parts.island
  pub fits : Fits parts.area parts.island parts.link_of

-- the rows for island node d are accepted: they are those of a certificate that is accepted for the island
pub record AreRowsAccepted (parts : FabricParts) (d : ℕ) : Type 0 where
  pub cert : Certificate
  pub accepted : IsAcceptedFor parts.island cert
  pub same : AreSameFor d parts.rows (row_of cert)

-- the island node that a node of the area is: the one with its identifier; none where it is outside the island
abbrev pub node_in : AreaParts → Topology → ℕ → Option ℕ
node_in area island s = option_and_then (number_of island.ids) (slice_get area.ids s)

abbrev pub node_at : FabricParts → ℕ → Option ℕ
node_at parts s = node_in parts.area parts.island s

-- the island link that a bond is; none where it is outside the island
abbrev pub link_at : FabricParts → ℕ → Option ℕ
link_at parts b = option_and_then (λ entry. entry) (slice_get parts.link_of b)

-- the element of the island that a failed element of the area is; none where it is outside the island
abbrev pub element_at : FabricParts → Failure → Option Element
element_at parts (failures.Node s) = option_map (λ n. elements.Node n) (node_at parts s)
element_at parts (failures.Bond b) = option_map (λ e. elements.Link e) (link_at parts b)

-- the element of the island that has failed, if one has
abbrev pub element_of : FabricParts → Option Failure → Option Element
element_of parts failure = option_and_then (element_at parts) failure

-- there are rows for node t of the area: if it is a node of the island, the rows for this one are accepted
abbrev pub AreRowsFor : FabricParts → ℕ → Type 0
AreRowsFor parts t = (d : ℕ) → node_at parts t ≡ Some d → AreRowsAccepted parts d
