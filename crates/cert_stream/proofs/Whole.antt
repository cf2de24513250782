-- The whole file of a certificate.
use Rattle.std.proofs.Common.{◌≡◌, ◌∙◌, ◌<◌, ◌≤◌, ◌*◌, ◌-◌, ◌++◌, ◌^◌, ℕ, List, length, sym, ap, arith, inr, subst}
use Rattle.std.proofs.lemmas.List.Sums.{count_by-le-length, length-filter}
use Rattle.mrt_graph.specs.declared.cert.CertFile.{CertFile}
use Rattle.mrt_graph.specs.declared.cert.CertLink.{CertLink}
use Rattle.mrt_graph.specs.declared.cert.CertNode.{CertNode}
use Rattle.mrt_graph.specs.GraphInvariant.{IsTopology}
use Rattle.mrt_graph.specs.Topology.{Topology}
use Rattle.mrt_rows.specs.CertOf.{IsCertOf}
use Rattle.cert_format.specs.CertText.{cert_text, header_text}
use Rattle.cert_format.specs.Putting.{Writer}
use Rattle.cert_format.specs.steps.Putting.{parts_text}
use Rattle.cert_format.specs.Versions.{rows_in, stands_in}
use Rattle.cert_format.proofs.GoesOn.{few_rows}
use Rattle.cert_format.proofs.SpellingLength.{spelling_length}
use Rattle.cert_stream.specs.steps.Stream.{AreOfFile, IsStream}
use Rattle.std.specs.List.{AllByRecursion}
use Rattle.mrt_graph.specs.Certificate.{IsCertificate}
use Rattle.mrt_graph.proofs.Folding.{accepted_folds}
use Rattle.mrt_rows.specs.RowsFound.{RowsFound}
use Rattle.mrt_rows.specs.steps.RowsOf.{AreAllRows, row_among}
use Rattle.mrt_rows.specs.RowsOf.{HasRow}
use Rattle.mrt_rows.proofs.CertAccepted.{cert_accepted, ordered_words}
use Rattle.mrt_rows.proofs.CertMade.{cert_kept}
use Rattle.mrt_rows.proofs.OrderedGraphs.{OrderedGraph}
use Rattle.cert_format.specs.Limits.{HasNumber, IsCertFile}

-- what the writer of a stream holds, and the parts after it
pub stream_text : (g : Topology) (number : ℕ) (nodes ns : List CertNode) (links ls : List CertLink) (rows : RowsFound) (writer : Writer) → IsStream g number nodes links rows writer
    → ns ≡ nodes → ls ≡ links → (file : CertFile) → IsCertOf g rows.root file → writer.held ++ parts_text 2 ns ls file.cert.rows ≡ cert_text file
stream_text g number nodes ns links ls rows writer is n l file of =
    let r = file.cert.rows in
    let tells = of.tells in
    let told = is.parts file of in
    ap (λ (it : Writer). it.held ++ parts_text 2 ns ls r) is.header
    ∙ ap (λ (it : ℕ). header_text 2 it (length g.links) number ++ parts_text 2 ns ls r) (sym tells.nodes.one_each)
    ∙ ap (λ (it : ℕ). header_text 2 (length file.cert.nodes) it number ++ parts_text 2 ns ls r) (sym tells.links.one_each)
    ∙ ap (λ (it : ℕ). header_text 2 (length file.cert.nodes) (length file.cert.links) it ++ parts_text 2 ns ls r) told.of_root
    ∙ ap (λ (it : List CertNode). header_text 2 (length file.cert.nodes) (length file.cert.links) file.root ++ parts_text 2 it ls r) (n ∙ told.all_nodes)
    ∙ ap (λ (it : List CertLink). header_text 2 (length file.cert.nodes) (length file.cert.links) file.root ++ parts_text 2 file.cert.nodes it r) (l ∙ told.all_links)
    ∙ ap (λ (v : ℕ). header_text v (length file.cert.nodes) (length file.cert.links) file.root ++ parts_text v file.cert.nodes file.cert.links r) (sym tells.version)

-- the bytes are few
pub few_bytes : (g : Topology) (root : ℕ) (file : CertFile) → IsTopology g → IsCertOf g root file → length (cert_text file) < 2 ^ 64
few_bytes g root file kept is =
    let n = length g.ids in
    let tells = is.tells in
    let rows : length (rows_in file.version file.cert.rows) ≤ n * (n - 1) =
    omega (arith, tells.row_count, length-filter (stands_in file.version) file.cert.rows, count_by-le-length (stands_in file.version) file.cert.rows) in
    let few = few_rows n 4096 kept.few_nodes in
    omega (arith, spelling_length file, tells.nodes.one_each, tells.links.one_each, kept.few_nodes, kept.few_links, rows, few)

-- its file is within the limits of version 2
module _ (g : Topology) (root : ℕ) (file : CertFile) (kept : IsTopology g) (root_within : root < length g.ids) (is : IsCertOf g root file) where
  abbrev og : OrderedGraph
  og = record { g = g; root = root; w = is.words; kept = kept; ordered = ordered_words g root file kept root_within is }

  are_rows : AreAllRows g root is.words file.cert.rows
  are_rows = record {
    count = is.tells.row_count;
    each = λ s t s_within t_within two.
        subst (λ (k : ℕ). HasRow g root is.words s (row_among k file.cert.rows s) t) is.tells.nodes.one_each (is.tells.rows s t s_within t_within two);
  }

  is_certificate : IsCertificate file.cert
  is_certificate = cert_kept og file.cert.nodes file.cert.links file.cert.rows is.tells.nodes is.tells.links are_rows

  pub file_within : (number : ℕ) (nodes : List CertNode) (links : List CertLink) → AreOfFile file number nodes links → number < 2 ^ 32 → AllByRecursion HasNumber nodes → IsCertFile file
  file_within number nodes links are fits all = record {
    certificate = is_certificate;
    root = omega (arith, fits, are.of_root);
    numbers = subst (λ (it : List CertNode). AllByRecursion HasNumber it) are.all_nodes all;
    of_version = inr (record {
      version = is.tells.version;
      nodes = omega (arith, kept.few_nodes, is.tells.nodes.one_each);
      links = omega (arith, kept.few_links, is.tells.links.one_each);
      foldable = accepted_folds g root file is_certificate (cert_accepted g root file kept root_within is);
    });
  }
