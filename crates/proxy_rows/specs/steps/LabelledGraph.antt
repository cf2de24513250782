-- How words and rows of a certificate are read, wherever they stand.
use Rattle.std.specs.Prelude.{ℕ, ◌↔◌, Bool, List, []}
use Rattle.mrt_graph.specs.Certificate.{Certificate, certificate_of, row_of}
use Rattle.mrt_graph.specs.GraphInvariant.{IsTopology}
use Rattle.mrt_graph.specs.Topology.{Topology}
use Rattle.mrt_graph.specs.AcceptedFor.{IsAcceptedFor}
use Rattle.mrt_graph.specs.declared.cert.Row.{Row}
use Rattle.mrt_graph.specs.Rows.{AreSameFor, Rows}
use Rattle.mrt_graph.specs.Search.{IsMarked}
use Rattle.proxy_rows.specs.declared.attachment.Attachment.{Attachment}
use Rattle.proxy_rows.specs.Attachment.{IsAttachment}
use Rattle.proxy_rows.specs.declared.side.Side.{Side}
use Rattle.proxy_rows.specs.declared.labelled_graph.LabelledGraph.{LabelledGraph}
use Rattle.proxy_rows.specs.Sides.{IsIn}

-- a graph, a certificate that is accepted for it, and the attachment of two of its routers
pub record IsGround (g : Topology) (c : Certificate) (at : Attachment) : Type 0 where
  pub kept : IsTopology g
  pub accepted : IsAcceptedFor g c
  pub a : ℕ
  pub b : ℕ
  pub attached : IsAttachment c a b at

-- a certificate of these words and some rows
abbrev pub with_rows : LabelledGraph → List Row → Certificate
with_rows words rest = certificate_of words.nodes.now words.links.now rest

-- one without rows: it says of nodes and links what each certificate of these words says
abbrev pub without_rows : LabelledGraph → Certificate
without_rows words = with_rows words []

-- s is on a side of the block
abbrev pub IsOn : LabelledGraph → Attachment → Side → ℕ → Type 0
IsOn words at side s = IsIn words.graph.now.links (without_rows words) at side s

-- these mark the nodes of a side, whatever the rows are
abbrev pub AreMarks : LabelledGraph → Attachment → Side → List Bool → Type 0
AreMarks words at side marks = (rest : List Row) (s : ℕ) → IsMarked marks s ↔ IsIn words.graph.now.links (with_rows words rest) at side s

-- with some rows the words are a certificate that is accepted for the graph and has the attachment
pub record AreAccepted (words : LabelledGraph) (at : Attachment) : Type 0 where
  pub rest : List Row
  pub stands : IsGround words.graph.now (with_rows words rest) at

-- with these rows the words are such a certificate, and its rows for the head of the attachment are the same as `rows`
pub record AreReadWith (words : LabelledGraph) (at : Attachment) (rows : Rows) (rest : List Row) : Type 0 where
  pub stands : IsGround words.graph.now (with_rows words rest) at
  pub rows_are : AreSameFor at.head (row_of (with_rows words rest)) rows
