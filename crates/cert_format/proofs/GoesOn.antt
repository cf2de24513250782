-- How a file is read on after the parts that were read.
use Rattle.std.proofs.Common.{◌≡◌, ◌+◌, ◌-◌, ◌*◌, ◌≤◌, ◌==◌, ℕ, List, [], ◌++◌, length, Option, Some, None, inl, inr, refl, sym, ap, subst, ◌∙◌, arith, append_assoc, length-append}
use Rattle.std.specs.List.{flat_map}
use Rattle.std.proofs.Math.Nat.{mul-le-mul_left, mul-le-mul_right}
use Rattle.std.specs.Prelude.{if◌then◌else◌}
use Rattle.std.proofs.lemmas.Bool.{cases_Bool}
use Rattle.std.proofs.lemmas.List.{append-nil}
use Rattle.mrt_graph.proofs.Pairs.{few_set, pairs_length}
use Rattle.mrt_graph.specs.Certificate.{IsCertLink, certificate_of}
use Rattle.mrt_graph.specs.RelatedPairs.{related_pairs}
use Rattle.mrt_graph.specs.Kin.{kin_of}
use Rattle.mrt_graph.specs.declared.cert.CertFile.{CertFile}
use Rattle.mrt_graph.specs.declared.cert.CertLink.{CertLink}
use Rattle.mrt_graph.specs.declared.cert.CertNode.{CertNode}
use Rattle.mrt_graph.specs.declared.cert.Row.{Row}
use Rattle.cert_format.specs.declared.header.Header.{Header}
use Rattle.cert_format.specs.CertText.{cert_text, header_text, node_text, link_text, row_text}
use Rattle.cert_format.specs.Layout.{End, Form, after_links, after_nodes, collected, node_form, link_form, row_form}
use Rattle.cert_format.specs.FirstFault.{fault_in, first_fault}
use Rattle.cert_format.specs.Limits.{IsCertFile}
use Rattle.cert_format.specs.steps.Reading.{IsFileRow, IsHeader, IsListOf, IsNode}
use Rattle.cert_format.specs.steps.Steps.{AreBelow, AreFirst, AreParts, AreUnder, AreWhole, Parts, text_of, text_of_header}
use Rattle.cert_format.specs.Versions.{all_rows, row_count, rows_in, stray_head, tag_count}
use Rattle.cert_format.proofs.FileRows.{file_rows_count}
use Rattle.cert_format.proofs.Files.{ended, few_most_links, few_most_nodes, file_header, file_nodes, file_rows, header_passes, heads_pass, links_few, nodes_few, version_heads}
use Rattle.cert_format.proofs.Lists.{length_texts, none_left, some_pass}
use Rattle.cert_format.proofs.Parts.{link_part, node_part, row_part}

-- the parts of a header that was read are under it
pub under : (parts : Parts) (header : Header) → parts.header ≡ Some header → AreParts parts → AreUnder header parts
under parts header is are = subst (λ (it : Option Header). AreBelow it parts) is are

pub are_under : (parts : Parts) (header : Header) → parts.header ≡ Some header → AreUnder header parts → AreParts parts
are_under parts header is are = subst (λ (it : Option Header). AreBelow it parts) (sym is) are

-- before the header is read
pub none_read : (parts : Parts) → parts.header ≡ None → AreParts parts → text_of parts ≡ []
none_read parts is are =
    let none = subst (λ (it : Option Header). AreBelow it parts) is are in
    rw (is, none.0, none.1.links, none.1.rows) refl

pub parts_length : (parts : Parts)
    → length (text_of parts) ≡ length (text_of_header parts.header) + (11 * length parts.nodes + (7 * length parts.links + 5 * length parts.rows))
parts_length parts =
    let links = flat_map link_text parts.links in
    let rows = flat_map row_text parts.rows in
    omega (
      arith,
      length_texts node_text 11 parts.nodes (λ x. refl),
      length_texts link_text 7 parts.links (λ x. refl),
      length_texts row_text 5 parts.rows (λ x. refl),
      length-append (text_of_header parts.header) (flat_map node_text parts.nodes ++ (links ++ rows)),
      length-append (flat_map node_text parts.nodes) (links ++ rows),
      length-append links rows,
    )

pub few_rows : (nodes most : ℕ) → nodes ≤ most → all_rows nodes ≤ all_rows most
few_rows nodes most few =
    let one : nodes * (nodes - 1) ≤ most * (nodes - 1) = mul-le-mul_right (nodes - 1) few in
    let fewer : nodes - 1 ≤ most - 1 = omega (arith, few) in
    let other : most * (nodes - 1) ≤ most * (most - 1) = mul-le-mul_left most fewer in
    omega (arith, one, other)

-- in a file there are at most all rows
few_row_count : (version : ℕ) (nodes : List CertNode) → row_count version nodes ≤ all_rows (length nodes)
few_row_count version nodes = elim (cases_Bool (version == 1)) [
  | inl one ↦ rw one (omega arith)
  | inr two ↦ rw two (omega (arith, few_set (related_pairs (certificate_of nodes [] [])), pairs_length (certificate_of nodes [] [])))
]

-- how few there are
pub record AreFew (parts : Parts) : Type 0 where
  pub nodes : length parts.nodes ≤ 4096
  pub links : length parts.links ≤ 16384
  pub rows : length parts.rows ≤ 4096 * 4095
  pub header : length (text_of_header parts.header) ≤ 14

pub few_in_file : (header : Header) (parts : Parts) → AreUnder header parts → row_count header.version parts.nodes ≤ 4096 * 4095
few_in_file header parts are =
    omega (arith, few_row_count header.version parts.nodes, few_rows (length parts.nodes) 4096 (omega (arith, are.nodes.few, are.header.few_nodes, few_most_nodes header.version)))

pub are_few : (parts : Parts) → AreParts parts → AreFew parts
are_few parts are = go parts.header refl
  where
    go : (o : Option Header) → parts.header ≡ o → AreFew parts
    go None is =
        let none = subst (λ (it : Option Header). AreBelow it parts) is are in
        record { nodes = rw none.0 (omega arith); links = rw none.1.links (omega arith); rows = rw none.1.rows (omega arith); header = rw is (omega arith) }
    go (Some header) is =
        let so = under parts header is are in
        record {
          nodes = omega (arith, so.nodes.few, so.header.few_nodes, few_most_nodes header.version);
          links = omega (arith, so.links.few, so.header.few_links, few_most_links header.version);
          rows = omega (arith, so.rows.few, few_in_file header parts so);
          header = rw is (omega arith);
        }

pub few_bytes : (parts : Parts) → AreParts parts → length (text_of parts) ≤ 84025358
few_bytes parts are =
    let few = are_few parts are in
    omega (arith, few.nodes, few.links, few.rows, few.header, parts_length parts)

-- the bytes that were read and those that are left, field by field
module _ (parts : Parts) (header : Header) (is : parts.header ≡ Some header) (within : IsHeader header.version header.nodes header.links header.root)
    (nodes : AreFirst header.nodes (IsNode header.nodes) parts.nodes) where
  place_is : 14 + 11 * length parts.nodes + 7 * length parts.links + 5 * length parts.rows ≡ length (text_of parts)
  place_is =
      let front : length (text_of_header parts.header) ≡ 14 = rw is refl in
      omega (arith, parts_length parts, front)

  -- the header and those nodes that are there
  after_header : (bytes : List ℕ) → first_fault (text_of parts ++ bytes)
      ≡ fault_in (collected (header.nodes - length parts.nodes) (node_form header.nodes) (λ more. after_nodes header.version header.links (parts.nodes ++ more))) (14 + 11 * length parts.nodes)
      (flat_map link_text parts.links ++ (flat_map row_text parts.rows ++ bytes))
  after_header bytes =
      let h = header_text header.version header.nodes header.links header.root in
      let n = flat_map node_text parts.nodes in
      let l = flat_map link_text parts.links in
      let r = flat_map row_text parts.rows in
      let text : text_of parts ++ bytes ≡ h ++ (n ++ (l ++ (r ++ bytes))) =
      ap (λ (it : Option Header). (text_of_header it ++ (n ++ (l ++ r))) ++ bytes) is ∙ append_assoc h (n ++ (l ++ r)) bytes
      ∙ ap (λ (it : List ℕ). h ++ it) (append_assoc n (l ++ r) bytes ∙ ap (λ (it : List ℕ). n ++ it) (append_assoc l r bytes)) in
      ap first_fault text
      ∙ header_passes header.version header.nodes header.links header.root (λ version nodes links. collected nodes (node_form nodes) (after_nodes version links)) (n ++ (l ++ (r ++ bytes))) within
      ∙ some_pass (node_form header.nodes) node_text (IsNode header.nodes) 11 (node_part header.nodes (nodes_few _ _ _ _ within)) header.nodes parts.nodes (after_nodes header.version header.links) 14 (l ++ (r ++ bytes)) nodes

  -- nodes are left
  pub nodes_left : parts.links ≡ [] → parts.rows ≡ [] → (bytes : List ℕ) → first_fault (text_of parts ++ bytes)
      ≡ fault_in (collected (header.nodes - length parts.nodes) (node_form header.nodes) (λ more. after_nodes header.version header.links (parts.nodes ++ more))) (length (text_of parts)) bytes
  nodes_left no_links no_rows bytes =
      let form : Form = collected (header.nodes - length parts.nodes) (node_form header.nodes) (λ more. after_nodes header.version header.links (parts.nodes ++ more)) in
      let none : flat_map link_text parts.links ++ (flat_map row_text parts.rows ++ bytes) ≡ bytes = rw (no_links, no_rows) refl in
      let place : 14 + 11 * length parts.nodes ≡ length (text_of parts) = omega (arith, place_is, ap length no_links, ap length no_rows) in
      after_header bytes ∙ ap (fault_in form (14 + 11 * length parts.nodes)) none ∙ ap (λ (at : ℕ). fault_in form at bytes) place

  module _ (all : length parts.nodes ≡ header.nodes) where
    pub after_all_nodes : (bytes : List ℕ) → first_fault (text_of parts ++ bytes)
        ≡ fault_in (after_nodes header.version header.links parts.nodes) (14 + 11 * length parts.nodes) (flat_map link_text parts.links ++ (flat_map row_text parts.rows ++ bytes))
    after_all_nodes bytes =
        let left = flat_map link_text parts.links ++ (flat_map row_text parts.rows ++ bytes) in
        after_header bytes
        ∙ none_left (node_form header.nodes) (λ more. after_nodes header.version header.links (parts.nodes ++ more)) (header.nodes - length parts.nodes) (14 + 11 * length parts.nodes) left (omega (arith, all))
        ∙ ap (λ (xs : List CertNode). fault_in (after_nodes header.version header.links xs) (14 + 11 * length parts.nodes) left) (append-nil parts.nodes)

    module _ (heads : stray_head header.version parts.nodes ≡ None) (links : AreFirst header.links (IsCertLink header.nodes) parts.links) where
      some_links : (bytes : List ℕ) → first_fault (text_of parts ++ bytes)
          ≡ fault_in (collected (header.links - length parts.links) (link_form header.nodes) (λ it. after_links header.version header.links parts.nodes)) (14 + 11 * length parts.nodes + 7 * length parts.links)
          (flat_map row_text parts.rows ++ bytes)
      some_links bytes =
          let at = 14 + 11 * length parts.nodes in
          let left = flat_map row_text parts.rows ++ bytes in
          after_all_nodes bytes ∙ heads_pass header.version header.links at parts.nodes (flat_map link_text parts.links ++ left) heads
          ∙ ap (λ (k : ℕ). fault_in (collected header.links (link_form k) (λ it. after_links header.version header.links parts.nodes)) at (flat_map link_text parts.links ++ left)) all
          ∙ some_pass (link_form header.nodes) link_text (IsCertLink header.nodes) 7 (link_part header.nodes (nodes_few _ _ _ _ within)) header.links parts.links (λ it. after_links header.version header.links parts.nodes) at left links

      -- links are left
      pub links_left : parts.rows ≡ [] → (bytes : List ℕ) → first_fault (text_of parts ++ bytes)
          ≡ fault_in (collected (header.links - length parts.links) (link_form header.nodes) (λ it. after_links header.version header.links parts.nodes)) (length (text_of parts)) bytes
      links_left no_rows bytes =
          let form : Form = collected (header.links - length parts.links) (link_form header.nodes) (λ it. after_links header.version header.links parts.nodes) in
          let none : flat_map row_text parts.rows ++ bytes ≡ bytes = rw no_rows refl in
          let place : 14 + 11 * length parts.nodes + 7 * length parts.links ≡ length (text_of parts) = omega (arith, place_is, ap length no_rows) in
          some_links bytes ∙ ap (fault_in form (14 + 11 * length parts.nodes + 7 * length parts.links)) none ∙ ap (λ (at : ℕ). fault_in form at bytes) place

      -- rows are left
      pub rows_left : length parts.links ≡ header.links → AreFirst (row_count header.version parts.nodes) (IsFileRow (tag_count header.version) header.links) parts.rows → (bytes : List ℕ)
          → first_fault (text_of parts ++ bytes)
          ≡ fault_in (collected (row_count header.version parts.nodes - length parts.rows) (row_form (tag_count header.version) header.links) (λ rows. End)) (length (text_of parts)) bytes
      rows_left all_links rows bytes =
          let at = 14 + 11 * length parts.nodes + 7 * length parts.links in
          some_links bytes
          ∙ none_left (link_form header.nodes) (λ it. after_links header.version header.links parts.nodes) (header.links - length parts.links) at (flat_map row_text parts.rows ++ bytes) (omega (arith, all_links))
          ∙ some_pass (row_form (tag_count header.version) header.links) row_text (IsFileRow (tag_count header.version) header.links) 5 (row_part (tag_count header.version) header.links (links_few _ _ _ _ within))
          (row_count header.version parts.nodes) parts.rows (λ rows. End) at bytes rows
          ∙ ap (λ (k : ℕ). fault_in (collected (row_count header.version parts.nodes - length parts.rows) (row_form (tag_count header.version) header.links) (λ rows. End)) k bytes) place_is

-- after the last row
pub at_end : (header : Header) (parts : Parts) → AreWhole header parts → (bytes : List ℕ) → first_fault (text_of parts ++ bytes) ≡ fault_in End (length (text_of parts)) bytes
at_end header parts whole bytes =
    let so = whole.under in
    rows_left parts header whole.header so.header so.nodes whole.nodes (so.known whole.nodes).heads so.links whole.links so.rows bytes
    ∙ none_left (row_form (tag_count header.version) header.links) (λ every. End) (row_count header.version parts.nodes - length parts.rows) (length (text_of parts)) bytes (omega (arith, whole.rows))

-- no field of a whole file is at fault
pub faultless : (header : Header) (parts : Parts) → AreWhole header parts → first_fault (text_of parts) ≡ None
faultless header parts whole = ap first_fault (sym (append-nil (text_of parts))) ∙ at_end header parts whole [] ∙ ended (length (text_of parts))

-- ---- the parts of a file

abbrev pub made_of : Header → List CertNode → List CertLink → List Row → Parts
made_of header nodes links rows =
    record { header = Some header; nodes = nodes; links = links; rows = rows; kin = if header.version == 1 then None else Some (kin_of nodes) }

pub all_made : (header : Header) (nodes : List CertNode) (links : List CertLink) (rows : List Row) → IsHeader header.version header.nodes header.links header.root
    → IsListOf header.nodes (IsNode header.nodes) nodes → IsListOf header.links (IsCertLink header.nodes) links
    → IsListOf (row_count header.version nodes) (IsFileRow (tag_count header.version) header.links) rows → stray_head header.version nodes ≡ None → AreWhole header (made_of header nodes links rows)
all_made header nodes links rows within n l r heads = record {
  header = refl;
  under = record {
    header = within;
    nodes = record { few = omega (arith, n.many); each = n.each };
    links = record { few = omega (arith, l.many); each = l.each };
    rows = record { few = omega (arith, r.many); each = r.each };
    nodes_first = λ fewer. absurd (omega (arith, fewer, n.many));
    links_first = λ fewer. absurd (omega (arith, fewer, l.many));
    known = λ all. record { heads = heads; index = refl };
  };
  nodes = n.many;
  links = l.many;
  rows = r.many;
}

abbrev pub header_of : CertFile → Header
header_of f = record { version = f.version; nodes = length f.cert.nodes; links = length f.cert.links; root = f.root }

abbrev pub parts_in : CertFile → Parts
parts_in f = made_of (header_of f) f.cert.nodes f.cert.links (rows_in f.version f.cert.rows)

pub file_whole : (f : CertFile) → IsCertFile f → AreWhole (header_of f) (parts_in f)
file_whole f is =
    all_made (header_of f) f.cert.nodes f.cert.links (rows_in f.version f.cert.rows) (file_header f is) (record { many = refl; each = file_nodes f is })
    (record { many = refl; each = is.certificate.links_kept }) (record { many = file_rows_count f is; each = file_rows f is }) (version_heads f is.of_version)

pub no_fault : (f : CertFile) → IsCertFile f → first_fault (cert_text f) ≡ None
no_fault f is = faultless (header_of f) (parts_in f) (file_whole f is)
