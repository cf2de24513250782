-- What is said of nodes and links alone is said whatever the rows are.
use Rattle.std.proofs.Common.{◌≡◌, ◌≢◌, ◌<◌, ◌↔◌, ℕ, Bool, true, List, [], Option, length, refl, sym, subst, arith}
use Rattle.std.specs.Prelude.{IsSome}
use Rattle.mrt_graph.specs.declared.cert.CertLink.{CertLink}
use Rattle.mrt_graph.specs.declared.cert.CertNode.{CertNode}
use Rattle.mrt_graph.specs.declared.cert.Row.{Row}
use Rattle.mrt_graph.specs.AcceptedFor.{IsAcceptedFor}
use Rattle.mrt_graph.specs.Certificate.{Certificate, row_of}
use Rattle.mrt_graph.specs.GraphInvariant.{IsTopology}
use Rattle.mrt_graph.specs.Rows.{AreSameFor, Rows}
use Rattle.mrt_graph.specs.Search.{IsMarked}
use Rattle.mrt_graph.specs.Topology.{Topology}
use Rattle.mrt_graph.proofs.RowsHold.{in_block_there}
use Rattle.proxy_rows.specs.declared.attachment.Attachment.{Attachment}
use Rattle.proxy_rows.specs.declared.proxy_row.Out.{Out}
use Rattle.proxy_rows.specs.declared.side.Side.{Side}
use Rattle.proxy_rows.specs.declared.side.Side.TheVariants.{Low, High}
use Rattle.proxy_rows.specs.declared.labelled_graph.LabelledGraph.{LabelledGraph}
use Rattle.proxy_rows.specs.Attachment.{IsAttachment}
use Rattle.proxy_rows.specs.steps.LabelledGraph.{AreAccepted, AreMarks, AreReadWith, IsGround, IsOn, with_rows}
use Rattle.proxy_rows.specs.LabelledGraph.{ReadFrom}
use Rattle.proxy_rows.specs.ProxyRows.{IsHeadRed, Closing, OneLink}
use Rattle.proxy_rows.specs.Sides.{IsIn, Router, Onward, goes_on}
use Rattle.proxy_rows.proofs.Grounds.{counts, head_within}

module _ (words : LabelledGraph) (at : Attachment) (one other : List Row) where
  goes : (side : Side) (s v : ℕ) → goes_on (with_rows words one) side s v ≡ true → goes_on (with_rows words other) side s v ≡ true
  goes Low s v on = on
  goes High s v on = on

  -- the nodes of a side
  pub on_side : (side : Side) (s : ℕ) → IsIn words.graph.now.links (with_rows words one) at side s → IsIn words.graph.now.links (with_rows words other) at side s
  on_side side s (Router _ same is) = Router s same is
  on_side side s (Onward _ e v is of onward on rest) = Onward s e v is of onward (goes side s v on) (on_side side v rest)

  -- red at the head
  pub red_too : (out : Out) → IsHeadRed (with_rows words one) at out → IsHeadRed (with_rows words other) at out
  red_too _ (Closing e of closing) = Closing e of closing
  red_too _ (OneLink e of lone) = OneLink e of lone

-- what marks a side by the words alone does so whatever the rows are
pub marks_too : (words : LabelledGraph) (at : Attachment) (side : Side) (marks : List Bool) → ((s : ℕ) → IsMarked marks s ↔ IsOn words at side s) → AreMarks words at side marks
marks_too words at side marks are rest s = (λ marked. on_side words at [] rest side s ((are s).0 marked), λ is. (are s).1 (on_side words at rest [] side s is))

-- a certificate's words on nodes and links, with its rows, are the certificate
pub whole : (words : LabelledGraph) (c : Certificate) → c.nodes ≡ words.nodes.now → c.links ≡ words.links.now → with_rows words c.rows ≡ c
whole words c nodes links = λ i. record { nodes = sym nodes i; links = sym links i; rows = c.rows }

pub read_with : (words : LabelledGraph) (at : Attachment) (rows : Rows) → IsTopology words.graph.now
    → (read : ReadFrom words.graph.now words.nodes.now words.links.now at rows) → AreReadWith words at rows read.cert.rows
read_with words at rows kept read =
    let same = sym (whole words read.cert read.nodes_are read.links_are) in
    record {
      stands =
          subst (λ (c : Certificate). IsGround words.graph.now c at) same
          (record { kept = kept; accepted = read.accepted; a = read.a; b = read.b; attached = read.attached });
      rows_are = subst (λ (c : Certificate). AreSameFor at.head (row_of c) rows) same read.rows_are;
    }

-- a certificate that is at hand, with an attachment of two routers
abbrev pub read_of : (g : Topology) (c : Certificate) (nodes : List CertNode) (links : List CertLink) (a b : ℕ) (at : Attachment) → nodes ≡ c.nodes → links ≡ c.links
    → IsAcceptedFor g c → IsAttachment c a b at → ReadFrom g nodes links at (row_of c)
read_of g c nodes links a b at same_nodes same_links accepted attached = record {
  cert = c;
  a = a;
  b = b;
  accepted = accepted;
  attached = attached;
  nodes_are = sym same_nodes;
  links_are = sym same_links;
  rows_are = λ s. refl;
}

-- words that are read with rows are accepted
pub accepted_of : (words : LabelledGraph) (at : Attachment) (rows : Rows) → (rest : List Row) × AreReadWith words at rows rest → AreAccepted words at
accepted_of words at rows read = record { rest = read.0; stands = read.1.stands }

-- each other node has a row for the head
pub row_given : (words : LabelledGraph) (at : Attachment) (rows : Rows) (rest : List Row) → AreReadWith words at rows rest → (s : ℕ) → s < length words.graph.now.ids → s ≢ at.head
    → IsSome (rows s at.head)
row_given words at rows rest read s within differ =
    let g = words.graph.now in
    let c = with_rows words rest in
    let row = in_block_there g read.stands.accepted.root _ read.stands.accepted.accepted s at.head
    (omega (arith, within, (counts g c at read.stands).nodes)) (head_within g c at read.stands) differ in
    subst (λ (o : Option Row). IsSome o) (read.rows_are s) (subst (λ (o : Option Row). IsSome o) (sym row.is) refl)
