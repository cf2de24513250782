-- Files with the same parts and the same near rows of each node are one.
use Rattle.std.proofs.Common.{◌≡◌, ◌∙◌, ◌++◌, ◌*◌, ◌-◌, ◌+◌, ◌<◌, ◌↔◌, ℕ, zero, suc, Bool, true, false, List, length, filter, take, sym, ap, subst, arith}
use Rattle.std.specs.Prelude.{IsTrue}
use Rattle.std.proofs.lemmas.Bool.{false≢true}
use borrow.Author.Count.{below_more}
use Rattle.std.specs.List.{flat_map}
use Rattle.mrt_graph.specs.declared.cert.CertFile.{CertFile}
use Rattle.mrt_graph.specs.declared.cert.CertLink.{CertLink}
use Rattle.mrt_graph.specs.declared.cert.CertNode.{CertNode}
use Rattle.mrt_graph.specs.declared.cert.Row.{Row}
use Rattle.mrt_graph.specs.Certificate.{Certificate}
use Rattle.mrt_graph.specs.Topology.{Topology}
use Rattle.mrt_rows.specs.CertOf.{IsCertOf}
use Rattle.mrt_graph.specs.Tags.{is_near}
use Rattle.mrt_rows.specs.NearOf.{near_rows_before, near_rows_of}
use Rattle.cert_format.specs.CertText.{cert_text, header_text, link_text, node_text, row_text}
use Rattle.cert_format.specs.Versions.{rows_in}
use Rattle.cert_stream.specs.steps.Stream.{HaveSameParts, HaveSameRows}
use Rattle.cert_stream.proofs.Nears.{all_text, near_more, rows_text}

none_before : (c : Certificate) → near_rows_before c 0 ≡ filter is_near (take 0 c.rows)
none_before c =
    let none : 0 * (length c.nodes - 1) ≡ 0 = omega arith in
    ap (λ (k : ℕ). filter is_near (take k c.rows)) none

-- the near rows of the first n nodes are the same too
same_before : (c other : Certificate) (n : ℕ) → HaveSameRows n c other → near_rows_before c n ≡ near_rows_before other n
same_before c other zero same = none_before c ∙ sym (none_before other)
same_before c other (suc n) same =
    let next : n + 1 ≡ suc n = omega arith in
    let here : near_rows_of c n ≡ near_rows_of other n = same n (omega arith) in
    let before : near_rows_before c n ≡ near_rows_before other n = same_before c other n (λ s below. same s (omega (arith, below))) in
    ap (near_rows_before c) (sym next) ∙ sym (near_more c n)
    ∙ ap (λ (it : List Row). it ++ near_rows_of c n) before
    ∙ ap (λ (it : List Row). near_rows_before other n ++ it) here
    ∙ near_more other n ∙ ap (near_rows_before other) next

-- the bytes of a file of version 2, by its parts
abbrev parts_of : ℕ → List CertNode → List CertLink → List ℕ → List ℕ
parts_of root nodes links rows =
    header_text 2 (length nodes) (length links) root ++ (flat_map node_text nodes ++ (flat_map link_text links ++ rows))

text_of : (file : CertFile) → file.version ≡ 2 → cert_text file ≡ parts_of file.root file.cert.nodes file.cert.links (rows_text file.cert)
text_of file two =
    let c = file.cert in
    ap (λ (v : ℕ). header_text v (length c.nodes) (length c.links) file.root ++ (flat_map node_text c.nodes ++ (flat_map link_text c.links ++ flat_map row_text (rows_in v c.rows)))) two

-- two certificates of graphs
module _ (g other : Topology) (root other_root : ℕ) (file second : CertFile) (is : IsCertOf g root file) (second_is : IsCertOf other other_root second) where
  -- with the same nodes are of graphs with as many
  pub same_count : HaveSameParts file second → length g.ids ≡ length other.ids
  same_count parts = sym is.tells.nodes.one_each ∙ ap length parts.nodes ∙ second_is.tells.nodes.one_each

  same_rows_text : HaveSameParts file second → HaveSameRows (length g.ids) file.cert second.cert → rows_text file.cert ≡ rows_text second.cert
  same_rows_text parts same =
      let n = length g.ids in
      let count : n ≡ length file.cert.nodes = sym is.tells.nodes.one_each in
      let other_count : n ≡ length second.cert.nodes = count ∙ ap length parts.nodes in
      let many : length second.cert.rows ≡ n * (n - 1) = second_is.tells.row_count ∙ ap (λ (k : ℕ). k * (k - 1)) (sym (same_count parts)) in
      sym (all_text file.cert n count is.tells.row_count)
      ∙ ap (λ (it : List Row). flat_map row_text it) (same_before file.cert second.cert n same)
      ∙ all_text second.cert n other_count many

  -- with the same parts and the same near rows have the same bytes
  pub same_text : HaveSameParts file second → HaveSameRows (length g.ids) file.cert second.cert → cert_text file ≡ cert_text second
  same_text parts same =
      let c = file.cert in
      let d = second.cert in
      text_of file is.tells.version
      ∙ ap (λ (it : ℕ). parts_of it c.nodes c.links (rows_text c)) parts.root
      ∙ ap (λ (it : List CertNode). parts_of second.root it c.links (rows_text c)) parts.nodes
      ∙ ap (λ (it : List CertLink). parts_of second.root d.nodes it (rows_text c)) parts.links
      ∙ ap (λ (it : List ℕ). parts_of second.root d.nodes d.links it) (same_rows_text parts same)
      ∙ sym (text_of second second_is.tells.version)

  -- are one exactly where they have both
  pub same_is_one : (words rows result : Bool) → words ≡ true → result ≡ rows → (IsTrue words ↔ HaveSameParts file second) → (IsTrue rows ↔ HaveSameRows (length g.ids) file.cert second.cert)
      → (cert_text file ≡ cert_text second → file ≡ second) → (IsTrue result ↔ (file ≡ second))
  same_is_one words rows result found is_rows of_words of_rows one = (
    λ so. one (same_text (of_words.0 found) (of_rows.0 (sym is_rows ∙ so))),
    λ same. is_rows ∙ of_rows.1 (λ s below. ap (λ (it : CertFile). near_rows_of it.cert s) same),
  )

  -- and never where their parts are not the same
  pub other_is_none : (words result : Bool) → words ≡ false → result ≡ words → (IsTrue words ↔ HaveSameParts file second) → (IsTrue result ↔ (file ≡ second))
  other_is_none words result found is_words of_words = (
    λ so. absurd (false≢true (sym found ∙ sym is_words ∙ so)),
    λ same. absurd (false≢true (sym found ∙ of_words.1 (record {
      root = ap (λ (it : CertFile). it.root) same;
      nodes = ap (λ (it : CertFile). it.cert.nodes) same;
      links = ap (λ (it : CertFile). it.cert.links) same;
    }))),
  )

-- node s is one of n nodes, and found to have other near rows
pub other_rows : (same : Bool) (n s at : ℕ) (c other : Certificate) → same ≡ false → at ≡ s → s < n → (IsTrue same ↔ (near_rows_of c at ≡ near_rows_of other at))
    → (IsTrue false ↔ HaveSameRows n c other)
other_rows same n s at c other not is below tells =
    (λ never. absurd (false≢true never), λ all. sym not ∙ tells.1 (all at (omega (arith, is, below))))

-- node s has the same near rows too
pub more_rows : (same : Bool) (s at : ℕ) (c other : Certificate) → same ≡ true → at ≡ s → HaveSameRows s c other → (IsTrue same ↔ (near_rows_of c at ≡ near_rows_of other at))
    → HaveSameRows (s + 1) c other
more_rows same s at c other found is before tells =
    let here : near_rows_of c at ≡ near_rows_of other at = tells.0 found in
    let there : near_rows_of c s ≡ near_rows_of other s = subst (λ (k : ℕ). near_rows_of c k ≡ near_rows_of other k) is here in
    below_more (λ (k : ℕ). near_rows_of c k ≡ near_rows_of other k) s before there
