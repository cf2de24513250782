-- What routes to some nodes, and a prefix's rows, are made from.
use Rattle.std.specs.Prelude.{◌≡◌, ◌↔◌, ℕ, Contains, List, Some, slice_get}
use Rattle.mrt_graph.specs.Certificate.{row_of}
use Rattle.fabric.specs.Served.{AgreeFor}
use Rattle.fabric.specs.Viewed.{parts_with}
use Rattle.mrt_graph.specs.declared.cert.CertFile.{CertFile}
use Rattle.mrt_rows.specs.RowsTo.{rows_in}
use Rattle.primary_alt.specs.RouteLists.{HasColumn, RouteLists}
use Rattle.primary_alt.specs.RoutesMade.{AreMade}
use Rattle.mrt_graph.specs.Topology.{Topology}
use Rattle.mrt_rows.specs.declared.rooted.RootedColumns.{RootedColumns}
use Rattle.mrt_graph.specs.declared.cert.CertNode.{CertNode}
use Rattle.proxy_rows.specs.declared.attachment.Attachment.{Attachment}
use Rattle.proxy_rows.specs.Attachment.{IsAttachment}
use Rattle.mrt_answer.specs.declared.packets.AreaAndIsland.{AreaAndIsland}
use Rattle.mrt_answer.specs.declared.packets.Tables.{Tables}
use Rattle.mrt_answer.specs.Texts.{IsComputedFile}
use Rattle.mrt_answer.specs.Made.{HasComputed}

-- one of these nodes of the area is island node d
pub record IsWanted (routes : RouteLists) (destinations : List ℕ) (d : ℕ) : Type 0 where
  pub t : ℕ
  pub among : Contains destinations t
  pub is : slice_get routes.nodes t ≡ Some (Some d)

-- routes to these nodes of the area alone, and for those that are of the island the rows of the certificate that is
-- computed for it
pub record AreTablesTo (net : AreaAndIsland) (destinations : List ℕ) (tables : Tables) : Type 0 where
  pub routed : AreMade net.area net.island.graph tables.routes
  pub links : tables.routes.links ≡ net.island.link_of
  pub columns : (t : ℕ) → HasColumn tables.routes t ↔ Contains destinations t
  pub file : CertFile
  pub certificate : IsComputedFile net.island.graph net.island.root file
  pub agree : (t : ℕ) → Contains destinations t
      → AgreeFor (parts_with net.area net.island.graph (rows_in tables.rows) tables.routes) (row_of file.cert) t

-- by the certificate of which columns are made, which says this of nodes, this is the attachment of two nodes
pub record IsAttachedBy (graph : Topology) (columns : RootedColumns) (nodes : List CertNode) (at : Attachment) : Type 0 where
  pub root : ℕ
  pub own : HasComputed graph root columns
  pub says : nodes ≡ own.file.cert.nodes
  pub a : ℕ
  pub b : ℕ
  pub attached : IsAttachment own.file.cert a b at
