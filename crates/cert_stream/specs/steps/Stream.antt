-- What is held before a certificate is written or compared, and what two certificate files have in common.
use Rattle.std.specs.Prelude.{◌≡◌, ◌<◌, ℕ, List, length}
use Rattle.mrt_graph.specs.declared.cert.CertFile.{CertFile}
use Rattle.mrt_graph.specs.declared.cert.CertLink.{CertLink}
use Rattle.mrt_graph.specs.declared.cert.CertNode.{CertNode}
use Rattle.mrt_graph.specs.Certificate.{Certificate}
use Rattle.mrt_graph.specs.GraphInvariant.{IsTopology}
use Rattle.mrt_graph.specs.Topology.{Topology}
use Rattle.mrt_rows.specs.CertOf.{IsCertOf}
use Rattle.mrt_rows.specs.NearOf.{near_rows_of}
use Rattle.mrt_rows.specs.RowMaker.{MakeRows}
use Rattle.mrt_rows.specs.RowsFound.{RowsFound}
use Rattle.cert_format.specs.CertText.{header_text}
use Rattle.cert_format.specs.Limits.{IsCertFile}
use Rattle.cert_format.specs.Putting.{Writer}

-- these are the number of a file's root, its nodes and its links
pub record AreOfFile (file : CertFile) (number : ℕ) (nodes : List CertNode) (links : List CertLink) : Type 0 where
  pub of_root : number ≡ file.root
  pub all_nodes : nodes ≡ file.cert.nodes
  pub all_links : links ≡ file.cert.links

-- what is held before a certificate is written or compared: what makes its rows, its other parts, and a writer that was given
-- its header alone; there is such a certificate, and it is within the limits of its version
pub record IsStream (g : Topology) (number : ℕ) (nodes : List CertNode) (links : List CertLink) (rows : RowsFound)
    (writer : Writer) : Type 0 where
  pub made : MakeRows g rows
  pub some : (file : CertFile) × IsCertOf g rows.root file
  pub parts : (file : CertFile) → IsCertOf g rows.root file → AreOfFile file number nodes links
  pub within : (file : CertFile) → IsCertOf g rows.root file → IsCertFile file
  pub header : writer ≡ record { version = 2; gone = 0; held = header_text 2 (length g.ids) (length g.links) number }

-- this is the root from which rows are made, and a node of the graph, which keeps what each graph does
pub record IsRootOf (g : Topology) (root of_rows : ℕ) : Type 0 where
  pub same : root ≡ of_rows
  pub within : root < length g.ids
  pub kept : IsTopology g

-- they have the same number of the root, the same nodes and the same links
pub record HaveSameParts (file other : CertFile) : Type 0 where
  pub root : file.root ≡ other.root
  pub nodes : file.cert.nodes ≡ other.cert.nodes
  pub links : file.cert.links ≡ other.cert.links

-- each of the first n nodes has the same near rows in both
abbrev pub HaveSameRows : ℕ → Certificate → Certificate → Type 0
HaveSameRows n c other = (s : ℕ) → s < n → near_rows_of c s ≡ near_rows_of other s
