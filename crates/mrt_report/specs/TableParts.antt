-- What a router's table is made from.
use Rattle.std.specs.Prelude.{◌≡◌, ℕ, List, Option, Some, slice_get}
use Rattle.area_graph.specs.Parts.{AreaParts}
use Rattle.mrt_graph.specs.Certificate.{Certificate, row_of}
use Rattle.mrt_graph.specs.Topology.{Topology}
use Rattle.primary_alt.specs.Primaries.{ArePrimaries}
use Rattle.primary_alt.specs.declared.shortest.Primary.{Primary}
use Rattle.mrt_report.specs.LineParts.{LineParts, IsSpotOf, line_parts}

-- the area; the island, with the island link that each bond of the area is, if it is one; the island's certificate; the
-- router, by its number in the island; and its primaries for all nodes of the area
pub record TableParts : Type 0 where
  pub area : AreaParts
  pub island : Topology
  pub link_of : List (Option ℕ)
  pub cert : Certificate
  pub source : ℕ
  pub primaries : List (Option Primary)

-- these parts
abbrev pub table_parts : AreaParts → Topology → List (Option ℕ) → Certificate → ℕ → List (Option Primary) → TableParts
table_parts area island link_of cert source primaries = record {
  area = area;
  island = island;
  link_of = link_of;
  cert = cert;
  source = source;
  primaries = primaries;
}

-- what each line of the table is made from: the rows are the certificate's
abbrev pub parts_of_lines : TableParts → LineParts
parts_of_lines parts = line_parts parts.area parts.island parts.link_of (row_of parts.cert) parts.source

-- among primaries for all nodes of the area, that for a node of the island
pub record IsPrimaryFor (area : AreaParts) (island : Topology) (primaries : List (Option Primary)) (to : ℕ) (primary : Primary)
    : Type 0 where
  pub spot : ℕ
  pub node : IsSpotOf area island spot to
  pub entry : slice_get primaries spot ≡ Some (Some primary)

-- the primaries of an island node
pub record AreItsPrimaries (area : AreaParts) (island : Topology) (source : ℕ) (primaries : List (Option Primary))
    : Type 0 where
  pub spot : ℕ
  pub node : IsSpotOf area island spot source
  pub entries : ArePrimaries area spot primaries
