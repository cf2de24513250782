-- The rows that stand in a file.
use Rattle.std.proofs.Common.{◌≡◌, ◌∙◌, ◌==◌, ◌||◌, ◌<◌, ◌≤◌, ◌*◌, ◌-◌, ℕ, Bool, true, not, List, [], ◌∷◌, Some, filter, length, map, slice_get, inl, inr, refl, sym, ap, arith}
use Rattle.std.proofs.lemmas.Bool.{cases_Bool, cases_eq, eq-eqb, false≢true, ne_eqb}
use Rattle.std.proofs.lemmas.List.{same_lists, length-map}
use Rattle.std.specs.List.{flat_map, AllByRecursion}
use Rattle.cert_format.specs.CertText.{row_text}
use Rattle.cert_format.specs.steps.Putting.{row_text_in}
use Rattle.std.proofs.lemmas.Option.{get_or_from_slice_get, slice_get-map}
use Rattle.std.specs.Option.{option_map}
use Rattle.mrt_graph.specs.declared.cert.CertFile.{CertFile}
use Rattle.mrt_graph.specs.declared.cert.Row.{Row}
use Rattle.mrt_graph.specs.Certificate.{Certificate, IsCertRow}
use Rattle.mrt_graph.specs.Foldable.{IsFoldable}
use Rattle.mrt_graph.specs.Tags.{is_near, tag_number}
use Rattle.mrt_graph.proofs.RowPlaces.{placed, row_at}
use Rattle.mrt_graph.proofs.Tallies.{length_is_tally, tally_map}
use Rattle.mrt_graph.specs.RelatedPairs.{related_pairs, set_marks}
use Rattle.cert_format.specs.Limits.{IsCertFile, IsOfVersion}
use Rattle.cert_format.specs.steps.Reading.{IsFileRow}
use Rattle.cert_format.specs.Versions.{row_count, rows_in, stands_in, tag_count}
use Rattle.cert_format.proofs.Fields.{few_tags}
use Rattle.mrt_graph.proofs.OneUnfolding.{folded_at, near_told}
use Rattle.mrt_graph.proofs.Pairs.{pairs_length, related_at}

-- a tag other than Carried
pub near_tag : (row : Row) → is_near row ≡ true → tag_number row.tag < 6
near_tag row near = elim (cases_eq (tag_number row.tag) 6) [
  | inl same ↦ absurd (false≢true (sym (ap not (eq-eqb (tag_number row.tag) 6 same)) ∙ near))
  | inr other ↦ omega (arith, few_tags row.tag, other)
]

pub tag_near : (row : Row) → tag_number row.tag < 6 → is_near row ≡ true
tag_near row few = ap not (ne_eqb (tag_number row.tag) 6 (λ same. omega (arith, few, same)))

stands_tagged : (version : ℕ) (row : Row) → stands_in version row ≡ true → tag_number row.tag < tag_count version
stands_tagged version row stands = elim (cases_Bool (version == 1)) [
  | inl one ↦ rw one (few_tags row.tag)
  | inr two ↦ rw two (near_tag row (rw two at stands))
]

pub file_rows_kept : (version links : ℕ) (rows : List Row) → AllByRecursion (IsCertRow links) rows → AllByRecursion (IsFileRow (tag_count version) links) (rows_in version rows)
file_rows_kept version links [] all = tt
file_rows_kept version links (row ∷ rows) all = elim (cases_Bool (stands_in version row)) [
  | inl stands ↦ rw stands (record { kept = all.0; tagged = stands_tagged version row stands }, file_rows_kept version links rows all.1)
  | inr left ↦ rw left (file_rows_kept version links rows all.1)
]

-- in version 1 all stand there
pub all_stand : (rows : List Row) → rows_in 1 rows ≡ rows
all_stand [] = refl
all_stand (row ∷ rows) = ap (λ (it : List Row). row ∷ it) (all_stand rows)

-- near rows alone
pub near_stand : (rows : List Row) → rows_in 2 rows ≡ filter is_near rows
near_stand rows = refl

-- in a foldable certificate a row is near exactly where its pair is related
pub near_tests : (c : Certificate) → length c.rows ≡ length c.nodes * (length c.nodes - 1) → IsFoldable c → map is_near c.rows ≡ related_pairs c
near_tests c many folds =
    same_lists (map is_near c.rows) (related_pairs c) (length-map c.rows is_near ∙ many ∙ sym (pairs_length c)) (λ k d within.
    let n = length c.nodes in
    let at = placed n k (omega (arith, within, length-map c.rows is_near, many)) in
    let it = folded_at c folds at.source at.target at.source_within at.target_within at.two in
    let row : slice_get c.rows k ≡ Some it.row =
    sym (ap (slice_get c.rows) at.place) ∙ sym (row_at c n at.source at.target refl at.source_within at.target_within at.two) ∙ it.is in
    let near : slice_get (map is_near c.rows) k ≡ Some (is_near it.row) = slice_get-map is_near c.rows k ∙ ap (option_map is_near) row in
    let pair = related_at c n at.source at.target refl at.source_within at.target_within at.two in
    let mark = sym (ap (slice_get (related_pairs c)) at.place) ∙ pair in
    get_or_from_slice_get (map is_near c.rows) k (is_near it.row) d near
    ∙ near_told c folds.top at.source at.target it.row it.folds
    ∙ sym (get_or_from_slice_get (related_pairs c) k _ d mark))

-- so many rows are near as tests hold
pub near_count : (rows : List Row) → length (filter is_near rows) ≡ set_marks (map is_near rows)
near_count rows =
    length_is_tally is_near rows ∙ sym (tally_map (λ (mark : Bool). mark) is_near rows)
    ∙ sym (length_is_tally (λ (mark : Bool). mark) (map is_near rows))

version_rows : (f : CertFile) → length f.cert.rows ≡ length f.cert.nodes * (length f.cert.nodes - 1) → IsOfVersion f
    → length (rows_in f.version f.cert.rows) ≡ row_count f.version f.cert.nodes
version_rows f many (inl one) = rw one.version (ap length (all_stand f.cert.rows) ∙ many)
version_rows f many (inr two) = rw two.version (near_count f.cert.rows ∙ ap set_marks (near_tests f.cert many two.foldable))

-- as many rows stand in a file as its nodes say
pub file_rows_count : (f : CertFile) → IsCertFile f → length (rows_in f.version f.cert.rows) ≡ row_count f.version f.cert.nodes
file_rows_count f is = version_rows f is.certificate.a_row_each is.of_version

-- of another version than 1, rows with the same near ones
pub near_same : (version : ℕ) (rows others : List Row) → (version ≡ 1 → ⊥) → filter is_near rows ≡ filter is_near others → rows_in version rows ≡ rows_in version others
near_same version rows others other same = alike rows ∙ same ∙ sym (alike others)
  where
    alike : (xs : List Row) → rows_in version xs ≡ filter is_near xs
    alike xs = ap (λ (b : Bool). filter (λ row. b || is_near row) xs) (ne_eqb version 1 other)

-- the bytes of those of the rows that stand in a file
abbrev pub text_in : ℕ → List Row → List ℕ
text_in version rows = flat_map row_text (rows_in version rows)

-- of each row those in the file are put
pub rows_put : (version : ℕ) (rows : List Row) → flat_map (row_text_in version) rows ≡ text_in version rows
rows_put version [] = refl
rows_put version (row ∷ rows) = elim (cases_Bool (stands_in version row)) [
  | inl stands ↦ rw (stands, rows_put version rows) refl
  | inr left ↦ rw (left, rows_put version rows) refl
]

pub short_row : (version : ℕ) (row : Row) → length (row_text_in version row) ≤ 5
short_row version row = elim (cases_Bool (stands_in version row)) [ inl stands ↦ rw stands (omega arith) | inr left ↦ rw left (omega arith) ]
