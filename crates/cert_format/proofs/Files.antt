-- Whole files: what their parts make, and that no field of a spelling is at fault.
use Rattle.std.proofs.Common.{◌≡◌, ℕ, ◌+◌, ◌≤◌, ◌≢◌, ◌==◌, List, [], ◌∷◌, ◌++◌, length, Option, Some, None, inl, inr, refl, ap, ◌∙◌, arith}
use Rattle.std.specs.List.{AllByRecursion}
use Rattle.std.specs.Int.{w16, w32, from_be_bytes}
use Rattle.std.specs.Prelude.{codes}
use Rattle.std.proofs.lemmas.Bool.{cases_Bool}
use Rattle.mrt_graph.specs.Certificate.{IsCertNode, certificate_of}
use Rattle.mrt_graph.specs.declared.cert.CertNode.{CertNode}
use Rattle.mrt_graph.specs.declared.cert.CertFile.{CertFile}
use Rattle.cert_format.specs.declared.error.CertKind.TheVariants.{Heads, Trailing}
use Rattle.cert_format.specs.CertText.{header_text}
use Rattle.cert_format.specs.Layout.{Form, End, after_links, after_nodes, any, collected, exactly, head_place, known_version, within, header_form, link_form, Fails}
use Rattle.cert_format.specs.FirstFault.{fault_in}
use Rattle.cert_format.specs.Limits.{HasNumber, IsCertFile, IsOfVersion}
use Rattle.cert_format.specs.steps.Reading.{IsFileRow, IsNode, IsHeader}
use Rattle.cert_format.specs.Versions.{most_links, most_nodes, rows_in, stray_head, tag_count}
use Rattle.cert_format.proofs.Fields.{wide16, wide32, field_passes}
use Rattle.cert_format.proofs.FileRows.{file_rows_kept}
use Rattle.cert_format.proofs.HeadFaults.{no_head_fault}
use Rattle.std.specs.Option.{option_map_or}

-- what is left after the last row is at fault
pub trailing : (at : ℕ) (bytes : List ℕ) → bytes ≢ [] → fault_in End at bytes ≡ Some (at, Trailing)
unfolding fault_in
trailing at [] some = absurd (some refl)
trailing at (byte ∷ bytes) some = refl

pub ended : (at : ℕ) → fault_in End at [] ≡ None
unfolding fault_in
ended at = refl

pub few_most_nodes : (version : ℕ) → most_nodes version ≤ 4096
few_most_nodes version = elim (cases_Bool (version == 1)) [ inl one ↦ rw one (omega arith) | inr two ↦ rw two (omega arith) ]

pub few_most_links : (version : ℕ) → most_links version ≤ 16384
few_most_links version = elim (cases_Bool (version == 1)) [ inl one ↦ rw one (omega arith) | inr two ↦ rw two (omega arith) ]

pub nodes_few : (version nodes links root : ℕ) → IsHeader version nodes links root → nodes ≤ 65535
nodes_few version nodes links root header = omega (arith, header.few_nodes, few_most_nodes version)

pub links_few : (version nodes links root : ℕ) → IsHeader version nodes links root → links ≤ 65535
links_few version nodes links root header = omega (arith, header.few_links, few_most_links version)

pub header_passes : (version nodes links root : ℕ) (next : ℕ → ℕ → ℕ → Form) (rest : List ℕ) → IsHeader version nodes links root
    → fault_in (header_form next) 0 (header_text version nodes links root ++ rest) ≡ fault_in (next version nodes links) 14 rest
header_passes version nodes links root next rest header =
    let most = few_most_nodes version in
    let more = few_most_links version in
    field_passes (exactly w32 (from_be_bytes w32 (codes "MRTC"))) _ _ (from_be_bytes w32 (codes "MRTC")) _ wide32 (omega arith) (omega arith) (omega arith)
    ∙ field_passes known_version _ _ version _ wide16 (omega (arith, header.to_two)) header.from_one (omega (arith, header.to_two))
    ∙ field_passes (within w16 1 (most_nodes version + 1)) _ _ nodes _ wide16 (omega (arith, header.few_nodes, most)) header.some_node (omega (arith, header.few_nodes))
    ∙ field_passes (within w16 0 (most_links version + 1)) _ _ links _ wide16 (omega (arith, header.few_links, more)) (omega arith) (omega (arith, header.few_links))
    ∙ field_passes (any w32) _ _ root _ wide32 header.root_fits (omega arith) header.root_fits

-- no head is at fault
pub heads_pass : (version links at : ℕ) (ns : List CertNode) (rest : List ℕ) → stray_head version ns ≡ None
    → fault_in (after_nodes version links ns) at rest ≡ fault_in (collected links (link_form (length ns)) (λ all. after_links version links ns)) at rest
heads_pass version links at ns rest none =
    ap (λ (o : Option ℕ). fault_in (option_map_or (λ a. Fails (head_place a) Heads) o (collected links (link_form (length ns)) (λ all. after_links version links ns))) at rest) none

-- a head is at fault
pub head_fails : (version links at a : ℕ) (ns : List CertNode) (rest : List ℕ) → stray_head version ns ≡ Some a
    → fault_in (after_nodes version links ns) at rest ≡ Some (head_place a, Heads)
unfolding fault_in
head_fails version links at a ns rest some =
    ap (λ (o : Option ℕ). fault_in (option_map_or (λ a. Fails (head_place a) Heads) o (collected links (link_form (length ns)) (λ all. after_links version links ns))) at rest) some

nodes_so : (n : ℕ) (ns : List CertNode) → AllByRecursion (IsCertNode n) ns → AllByRecursion HasNumber ns → AllByRecursion (IsNode n) ns
nodes_so n [] kept numbers = tt
nodes_so n (x ∷ ns) kept numbers = (record { kept = kept.0; number = numbers.0 }, nodes_so n ns kept.1 numbers.1)

version_limits : (f : CertFile) → IsOfVersion f → (1 ≤ f.version) × (f.version ≤ 2) × (length f.cert.nodes ≤ most_nodes f.version) × (length f.cert.links ≤ most_links f.version)
version_limits f (inl one) = rw one.version (omega arith, omega arith, one.nodes, one.links)
version_limits f (inr two) = rw two.version (omega arith, omega arith, two.nodes, two.links)

-- no head of a file is at fault
pub version_heads : (f : CertFile) → IsOfVersion f → stray_head f.version f.cert.nodes ≡ None
version_heads f (inl one) = rw one.version refl
version_heads f (inr two) =
    rw two.version (no_head_fault (certificate_of f.cert.nodes [] []) (record { top = two.foldable.top; least = two.foldable.least; chains = two.foldable.chains }))

pub file_header : (f : CertFile) → IsCertFile f → IsHeader f.version (length f.cert.nodes) (length f.cert.links) f.root
file_header f is =
    let limits = version_limits f is.of_version in
    record { from_one = limits.0; to_two = limits.1; some_node = is.certificate.some_node; few_nodes = limits.2; few_links = limits.3; root_fits = is.root }

pub file_nodes : (f : CertFile) → IsCertFile f → AllByRecursion (IsNode (length f.cert.nodes)) f.cert.nodes
file_nodes f is = nodes_so (length f.cert.nodes) f.cert.nodes is.certificate.nodes_kept is.numbers

pub file_rows : (f : CertFile) → IsCertFile f → AllByRecursion (IsFileRow (tag_count f.version) (length f.cert.links)) (rows_in f.version f.cert.rows)
file_rows f is = file_rows_kept f.version (length f.cert.links) f.cert.rows is.certificate.rows_kept
