-- What proxy rows are made from: fields and rows of a certificate, wherever they stand.
use Rattle.std.specs.Prelude.{ℕ, List, ◌≡◌}
use Rattle.mrt_graph.specs.Certificate.{Certificate, row_of}
use Rattle.mrt_graph.specs.Topology.{Topology}
use Rattle.mrt_graph.specs.AcceptedFor.{IsAcceptedFor}
use Rattle.mrt_graph.specs.Rows.{AreSameFor, Rows}
use Rattle.mrt_graph.specs.declared.cert.CertLink.{CertLink}
use Rattle.mrt_graph.specs.declared.cert.CertNode.{CertNode}
use Rattle.proxy_rows.specs.declared.attachment.Attachment.{Attachment}
use Rattle.proxy_rows.specs.Attachment.{IsAttachment}

-- a certificate that is accepted for the graph, with an attachment of two routers: it has these fields of nodes and links,
-- and its rows for the head of the attachment are the same as these
pub record ReadFrom (g : Topology) (nodes : List CertNode) (links : List CertLink) (at : Attachment) (rows : Rows) : Type 0 where
  pub cert : Certificate
  pub a : ℕ
  pub b : ℕ
  pub accepted : IsAcceptedFor g cert
  pub attached : IsAttachment cert a b at
  pub nodes_are : cert.nodes ≡ nodes
  pub links_are : cert.links ≡ links
  pub rows_are : AreSameFor at.head (row_of cert) rows
