-- What the rows for a prefix are read from.
use Rattle.std.proofs.Common.{◌≡◌, ℕ, List, Option, sym}
use Rattle.mrt_graph.specs.declared.cert.CertLink.{CertLink}
use Rattle.mrt_graph.specs.declared.cert.CertNode.{CertNode}
use Rattle.mrt_graph.specs.declared.cert.Row.{Row}
use Rattle.mrt_graph.specs.Column.{rows_of_column}
use Rattle.mrt_graph.specs.Topology.{Topology}
use Rattle.mrt_rows.specs.ColumnOf.{HasRowsFor}
use Rattle.mrt_rows.specs.declared.rooted.RootedColumns.{RootedColumns}
use Rattle.proxy_rows.specs.declared.attachment.Attachment.{Attachment}
use Rattle.proxy_rows.specs.Attachment.{IsAttachment}
use Rattle.proxy_rows.specs.LabelledGraph.{ReadFrom}
use Rattle.mrt_answer.specs.Made.{HasComputed}
use Rattle.mrt_answer.proofs.OneProxy.{accepted_for}

-- what the rows for a prefix are read from, by its words and one column of it
abbrev pub read_from : (graph : Topology) (root : ℕ) (columns : RootedColumns) (own : HasComputed graph root columns) (nodes : List CertNode) (links : List CertLink)
    (a b : ℕ) (at : Attachment) (column : List (Option Row)) → IsAttachment own.file.cert a b at → nodes ≡ own.file.cert.nodes → links ≡ own.file.cert.links
    → HasRowsFor own.file.cert at.head column → ReadFrom graph nodes links at (rows_of_column column)
read_from graph root columns own nodes links a b at column attached nodes_are links_are rows = record {
  cert = own.file.cert;
  a = a;
  b = b;
  accepted = accepted_for graph root own.file own.certificate;
  attached = attached;
  nodes_are = sym nodes_are;
  links_are = sym links_are;
  rows_are = rows.same;
}
