-- How many bytes a certificate file has.
use Rattle.std.proofs.Common.{◌≡◌, ◌≤◌, ◌+◌, ◌*◌, ℕ, length, inl, inr, refl, arith}
use Rattle.mrt_graph.specs.Certificate.{IsCertificate}
use Rattle.mrt_graph.specs.declared.cert.CertFile.{CertFile}
use Rattle.cert_format.specs.CertText.{cert_text}
use Rattle.cert_format.specs.Limits.{IsCertFile, IsOfVersion}
use Rattle.cert_format.specs.Versions.{all_rows, rows_in, stands_in}
use Rattle.cert_format.proofs.GoesOn.{are_under, few_bytes, few_rows, file_whole, header_of, parts_in, parts_length}
use Rattle.std.proofs.lemmas.List.Sums.{count_by-le-length, length-filter}

pub spelling_length : (f : CertFile) → length (cert_text f)
    ≡ 14 + 11 * length f.cert.nodes + 7 * length f.cert.links + 5 * length (rows_in f.version f.cert.rows)
spelling_length f = let all : length (cert_text f) ≡ 14 + (11 * length f.cert.nodes + (7 * length f.cert.links + 5 * length (rows_in f.version f.cert.rows))) = parts_length (parts_in f) in omega (arith, all)

-- of so many nodes and links
few_spelled_by : (f : CertFile) (most more : ℕ) → IsCertificate f.cert → length f.cert.nodes ≤ most → length f.cert.links ≤ more
    → length (cert_text f) ≤ 14 + 11 * most + 7 * more + 5 * all_rows most
few_spelled_by f most more is nodes links =
    let length_is = spelling_length f in
    let few = few_rows (length f.cert.nodes) most nodes in
    let rows = is.a_row_each in
    let standing = length-filter (stands_in f.version) f.cert.rows in
    let fewer = count_by-le-length (stands_in f.version) f.cert.rows in
    omega (arith, length_is, few, rows, nodes, links, standing, fewer)

pub longest_spelling : (f : CertFile) → IsCertFile f → length (cert_text f) ≤ 84025358
longest_spelling f is = few_bytes (parts_in f) (are_under (parts_in f) (header_of f) refl (file_whole f is).under)

pub longest_one : (f : CertFile) → IsCertFile f → f.version ≡ 1 → length (cert_text f) ≤ 21041166
longest_one f within version = go within.of_version
  where
    go : IsOfVersion f → length (cert_text f) ≤ 21041166
    go (inl one) = few_spelled_by f 2048 8192 within.certificate one.nodes one.links
    go (inr two) = absurd (omega (arith, version, two.version))
