-- How many bytes the parts of a certificate have.
use Rattle.std.proofs.Common.{◌≡◌, ◌≤◌, ◌+◌, ◌*◌, ◌++◌, ℕ, suc, List, [], ◌∷◌, length, refl, arith, length-append}
use Rattle.std.specs.List.{flat_map}
use Rattle.std.proofs.lemmas.List.Sums.{count_by-le-length, length-filter}
use Rattle.mrt_graph.specs.declared.cert.CertNode.{CertNode}
use Rattle.mrt_graph.specs.declared.cert.CertLink.{CertLink}
use Rattle.mrt_graph.specs.declared.cert.Row.{Row}
use Rattle.cert_format.specs.CertText.{link_text, node_text, row_text}
use Rattle.cert_format.specs.Putting.{Writer}
use Rattle.cert_format.specs.Versions.{rows_in, stands_in}

-- parts of so many bytes each
parts_length : {A : Type 0} (text : A → List ℕ) (size : ℕ) → ((x : A) → length (text x) ≡ size) → (xs : List A) → length (flat_map text xs) ≡ size * length xs
parts_length text size sized [] = omega arith
parts_length text size sized (x ∷ xs) =
    let product : size * suc (length xs) ≡ size + size * length xs = grind arith in
    omega (arith, sized x, parts_length text size sized xs, length-append (text x) (flat_map text xs), product)

-- what a writer holds after so many more bytes
next_few : (writer : Writer) (text : List ℕ) (few more : ℕ) → writer.gone + length writer.held ≤ few → length text ≤ more
    → writer.gone + length (writer.held ++ text) ≤ few + more
next_few writer text few more before after = omega (arith, length-append writer.held text, before, after)

-- after the header of 14 bytes
pub nodes_put : (writer : Writer) (nodes : List CertNode) → writer.gone + length writer.held ≡ 14 → length nodes ≤ 65535
    → writer.gone + length (writer.held ++ flat_map node_text nodes) ≤ 720899
nodes_put writer nodes begun few =
    next_few writer (flat_map node_text nodes) 14 720885 (omega (arith, begun)) (omega (arith, few, parts_length node_text 11 (λ x. refl) nodes))

pub links_put : (writer : Writer) (links : List CertLink) → writer.gone + length writer.held ≤ 720899 → length links ≤ 65535
    → writer.gone + length (writer.held ++ flat_map link_text links) ≤ 1179644
links_put writer links before few =
    next_few writer (flat_map link_text links) 720899 458745 before (omega (arith, few, parts_length link_text 7 (λ x. refl) links))

pub rows_put : (writer : Writer) (rows : List Row) (bytes : ℕ) → writer.gone + length writer.held ≤ bytes → length rows ≤ 100
    → writer.gone + length (writer.held ++ flat_map row_text (rows_in writer.version rows)) ≤ bytes + 500
rows_put writer rows bytes before few =
    let standing = rows_in writer.version rows in
    let fewer : length standing ≤ length rows = omega (arith, length-filter (stands_in writer.version) rows, count_by-le-length (stands_in writer.version) rows) in
    next_few writer (flat_map row_text standing) bytes 500 before (omega (arith, few, fewer, parts_length row_text 5 (λ x. refl) standing))
