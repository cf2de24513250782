-- The file that the parts of a whole one are, and that no other one is spelled so.
use Rattle.std.proofs.Common.{◌≡◌, ◌≤◌, ◌-◌, ◌*◌, true, ℕ, List, [], ◌++◌, filter, length, Option, Some, None, Result, Ok, Err, inl, inr, refl, sym, ap, subst, ◌∙◌, arith, ◌^◌, ◌<◌, ◌∷◌, take, drop, append_assoc}
use Rattle.std.specs.List.{flat_map, AllByRecursion}
use Rattle.std.proofs.lemmas.Bool.{cases_eq, ne_eqb}
use Rattle.std.proofs.lemmas.Option.{same_Some}
use Rattle.mrt_graph.specs.Certificate.{Certificate, IsCertificate, IsCertNode, IsCertLink, IsCertRow, certificate_of}
use Rattle.mrt_graph.specs.Foldable.{IsFoldable}
use Rattle.mrt_graph.specs.FoldedRows.{IsFolded}
use Rattle.mrt_graph.specs.steps.FoldedRows.{unfolded_rows}
use Rattle.mrt_graph.specs.Kin.{Kin, kin_of}
use Rattle.mrt_graph.specs.Tags.{is_near, tag_number}
use Rattle.mrt_graph.specs.declared.cert.CertNode.{CertNode}
use Rattle.mrt_graph.specs.declared.cert.CertLink.{CertLink}
use Rattle.mrt_graph.specs.declared.cert.Row.{Row}
use Rattle.mrt_graph.specs.declared.cert.CertFile.{CertFile}
use Rattle.mrt_graph.proofs.Members.{all_weaker}
use Rattle.mrt_graph.proofs.Unfolding.{folded_certificate, folds, same_near}
use Rattle.cert_format.specs.declared.error.CertKind.{CertKind}
use Rattle.cert_format.specs.declared.error.CertFault.{CertFault}
use Rattle.cert_format.specs.declared.header.Header.{Header}
use Rattle.cert_format.specs.CertText.{cert_text, header_text, node_text, link_text, row_text, kind_number, role_number}
use Rattle.cert_format.specs.Folded.{head_fault}
use Rattle.cert_format.specs.Limits.{HasNumber, IsCertFile, IsOfVersion}
use Rattle.cert_format.specs.steps.Reading.{IsFileRow, IsNode}
use Rattle.cert_format.specs.steps.Steps.{AreKnown, AreWhole, Finishes, IsFileOf, Parts, text_of, text_of_header}
use Rattle.cert_format.specs.Stream.{Progress, end_fault}
use Rattle.cert_format.specs.Versions.{rows_in, tag_count, row_count}
use Rattle.cert_format.proofs.FileRows.{all_stand, tag_near, file_rows_count}
use Rattle.cert_format.proofs.Files.{few_most_links, few_most_nodes, file_header, file_nodes, file_rows}
use Rattle.cert_format.proofs.GoesOn.{no_fault}
use Rattle.cert_format.proofs.Forms.{same_fault}
use Rattle.cert_format.proofs.HeadFaults.{heads_sound}
use Rattle.std.specs.Int.{Width, w8, w16, w32, byte_len, from_be_bytes, to_be_bytes}
use Rattle.std.specs.Prelude.{codes}
use Rattle.std.proofs.lemmas.List.{take_at, drop_at, append-nil}
use Rattle.cert_format.specs.Layout.{kind_named, role_named, tag_named}
use Rattle.cert_format.proofs.Parts.{kind_again, role_again, tag_again}
use Rattle.cert_format.proofs.Fields.{IsWide, wide8, wide16, wide32, few_tags, kind_fits, role_fits}
use Rattle.mrt_graph.proofs.OneUnfolding.{one_unfolding}

-- ---- no two files have one spelling

-- two lists that begin with pieces of one length are one piece by piece
pub pieces : (n : ℕ) (a : List ℕ) (b : List ℕ) (r : List ℕ) (s : List ℕ) → length a ≡ n → length b ≡ n → a ++ r ≡ b ++ s → (a ≡ b) × (r ≡ s)
pieces n a b r s la lb e =
    (sym (take_at a r n la) ∙ ap (take n) e ∙ take_at b s n lb, sym (drop_at a r n la) ∙ ap (drop n) e ∙ drop_at b s n lb)

numbers : (w : Width) (x y : ℕ) (r s : List ℕ) → IsWide w → x < 256 ^ byte_len w → y < 256 ^ byte_len w → to_be_bytes w x ++ r ≡ to_be_bytes w y ++ s → (x ≡ y) × (r ≡ s)
numbers w x y r s wide lx ly e =
    let p = pieces (byte_len w) (to_be_bytes w x) (to_be_bytes w y) r s (wide.len x) (wide.len y) e in
    (sym (wide.again x lx) ∙ ap (from_be_bytes w) p.0 ∙ wide.again y ly, p.1)

nodes_one : (n : ℕ) → n ≤ 65535 → (x y : CertNode) → IsNode n x → IsNode n y → node_text x ≡ node_text y → x ≡ y
nodes_one n few x y kx ky e =
    let k = numbers w8 (kind_number x.id.kind) (kind_number y.id.kind) _ _ wide8 (omega (arith, (kind_fits x.id.kind).1)) (omega (arith, (kind_fits y.id.kind).1)) e in
    let i = numbers w32 x.id.number y.id.number _ _ wide32 kx.number ky.number k.1 in
    let o = numbers w16 x.order y.order _ _ wide16 (omega arith) (omega arith) i.1 in
    let h = numbers w16 x.head y.head _ _ wide16 (omega arith) (omega arith) o.1 in
    let b = numbers w16 x.block y.block [] [] wide16 (omega arith) (omega arith) h.1 in
    let kind = sym (kind_again x.id.kind) ∙ ap kind_named k.0 ∙ kind_again y.id.kind in
    λ j. record { id = record { kind = kind j; number = i.0 j }; order = o.0 j; head = h.0 j; block = b.0 j }

links_one : (n : ℕ) → n ≤ 65535 → (x y : CertLink) → IsCertLink n x → IsCertLink n y → link_text x ≡ link_text y → x ≡ y
links_one n few x y kx ky e =
    let a = numbers w16 x.a y.a _ _ wide16 (omega arith) (omega arith) e in
    let b = numbers w16 x.b y.b _ _ wide16 (omega arith) (omega arith) a.1 in
    let k = numbers w16 x.block y.block _ _ wide16 (omega arith) (omega arith) b.1 in
    let r = numbers w8 (role_number x.role) (role_number y.role) [] [] wide8 (omega (arith, role_fits x.role)) (omega (arith, role_fits y.role)) k.1 in
    let role = sym (role_again x.role) ∙ ap role_named r.0 ∙ role_again y.role in λ j. record { a = a.0 j; b = b.0 j; block = k.0 j; role = role j }

rows_one : (tags m : ℕ) → m ≤ 65535 → (x y : Row) → IsFileRow tags m x → IsFileRow tags m y → row_text x ≡ row_text y → x ≡ y
rows_one tags m few x y kx ky e =
    let b = numbers w16 x.blue y.blue _ _ wide16 (omega (arith, kx.kept.blue)) (omega (arith, ky.kept.blue)) e in
    let r = numbers w16 x.red y.red _ _ wide16 (omega (arith, kx.kept.red)) (omega (arith, ky.kept.red)) b.1 in
    let t = numbers w8 (tag_number x.tag) (tag_number y.tag) [] [] wide8 (omega (arith, few_tags x.tag)) (omega (arith, few_tags y.tag)) r.1 in
    let tag = sym (tag_again x.tag) ∙ ap tag_named t.0 ∙ tag_again y.tag in λ j. record { blue = b.0 j; red = r.0 j; tag = tag j }

lists_one : {A : Type 0} (text : A → List ℕ) (Keeps : A → Type 0) (size : ℕ) → ((x : A) → length (text x) ≡ size) → ((x y : A) → Keeps x → Keeps y → text x ≡ text y → x ≡ y)
    → (xs ys : List A) (r s : List ℕ) → length xs ≡ length ys → AllByRecursion Keeps xs → AllByRecursion Keeps ys → flat_map text xs ++ r ≡ flat_map text ys ++ s → (xs ≡ ys) × (r ≡ s)
lists_one text Keeps size sized one [] [] r s same kx ky e = (refl, e)
lists_one text Keeps size sized one [] (y ∷ ys) r s same kx ky e = absurd (omega (arith, same))
lists_one text Keeps size sized one (x ∷ xs) [] r s same kx ky e = absurd (omega (arith, same))
lists_one text Keeps size sized one (x ∷ xs) (y ∷ ys) r s same kx ky e =
    let apart : text x ++ (flat_map text xs ++ r) ≡ text y ++ (flat_map text ys ++ s) =
    sym (append_assoc (text x) (flat_map text xs) r) ∙ e ∙ append_assoc (text y) (flat_map text ys) s in
    let first = pieces size (text x) (text y) (flat_map text xs ++ r) (flat_map text ys ++ s) (sized x) (sized y) apart in
    let others = lists_one text Keeps size sized one xs ys r s (omega (arith, same)) kx.1 ky.1 first.1 in
    let here : x ≡ y = one x y kx.0 ky.0 first.0 in
    let there : xs ≡ ys = others.0 in
    (cc, others.1)

-- the rows that stand in a file fix all its rows
all_rows_one : (f g : CertFile) → IsCertFile f → IsCertFile g → f.version ≡ g.version → f.cert.nodes ≡ g.cert.nodes → rows_in f.version f.cert.rows ≡ rows_in g.version g.cert.rows
    → IsOfVersion f → IsOfVersion g → f.cert.rows ≡ g.cert.rows
all_rows_one f g kf kg v n e (inl one) (inl other) =
    sym (all_stand f.cert.rows) ∙ ap (λ (it : ℕ). rows_in it f.cert.rows) (sym one.version) ∙ e
    ∙ ap (λ (it : ℕ). rows_in it g.cert.rows) other.version ∙ all_stand g.cert.rows
all_rows_one f g kf kg v n e (inl one) (inr other) = absurd (omega (arith, one.version, v, other.version))
all_rows_one f g kf kg v n e (inr one) (inl other) = absurd (omega (arith, one.version, v, other.version))
all_rows_one f g kf kg v n e (inr one) (inr other) =
    let near : rows_in 2 f.cert.rows ≡ rows_in 2 g.cert.rows =
    ap (λ (it : ℕ). rows_in it f.cert.rows) (sym one.version) ∙ e ∙ ap (λ (it : ℕ). rows_in it g.cert.rows) other.version in
    let folds : IsFoldable (certificate_of f.cert.nodes g.cert.links g.cert.rows) =
    subst (λ (it : List CertNode). IsFoldable (certificate_of it g.cert.links g.cert.rows)) (sym n) (foldable_again g other.foldable) in
    one_unfolding f.cert.nodes f.cert.links g.cert.links f.cert.rows g.cert.rows kf.certificate.a_row_each
    (kg.certificate.a_row_each ∙ ap (λ (it : List CertNode). length it * (length it - 1)) (sym n)) (foldable_again f one.foldable) folds near
  where
    foldable_again : (f : CertFile) → IsFoldable f.cert → IsFoldable (certificate_of f.cert.nodes f.cert.links f.cert.rows)
    foldable_again f folds = record { top = folds.top; least = folds.least; chains = folds.chains; rows = folds.rows }

pub one_file : (f g : CertFile) → IsCertFile f → IsCertFile g → cert_text f ≡ cert_text g → f ≡ g
one_file f g kf kg e =
    let hf = file_header f kf in
    let hg = file_header g kg in
    let magic = pieces 4 (codes "MRTC") (codes "MRTC") _ _ refl refl e in
    let v = numbers w16 f.version g.version _ _ wide16 (omega (arith, hf.to_two)) (omega (arith, hg.to_two)) magic.1 in
    let n = numbers w16 (length f.cert.nodes) (length g.cert.nodes) _ _ wide16 (omega (arith, kf.certificate.few_nodes)) (omega (arith, kg.certificate.few_nodes)) v.1 in
    let m = numbers w16 (length f.cert.links) (length g.cert.links) _ _ wide16 (omega (arith, kf.certificate.few_links)) (omega (arith, kg.certificate.few_links)) n.1 in
    let r = numbers w32 f.root g.root _ _ wide32 kf.root kg.root m.1 in
    let rows_f = rows_in f.version f.cert.rows in
    let rows_g = rows_in g.version g.cert.rows in
    let tags = tag_count f.version in
    let nodes_g : AllByRecursion (IsNode (length f.cert.nodes)) g.cert.nodes = subst (λ (k : ℕ). AllByRecursion (IsNode k) g.cert.nodes) (sym n.0) (file_nodes g kg) in
    let links_g : AllByRecursion (IsCertLink (length f.cert.nodes)) g.cert.links = subst (λ (k : ℕ). AllByRecursion (IsCertLink k) g.cert.links) (sym n.0) kg.certificate.links_kept in
    let kept_g : AllByRecursion (IsFileRow tags (length f.cert.links)) rows_g =
    subst (λ (k : ℕ). AllByRecursion (IsFileRow (tag_count k) (length f.cert.links)) rows_g) (sym v.0)
    (subst (λ (k : ℕ). AllByRecursion (IsFileRow (tag_count g.version) k) rows_g) (sym m.0) (file_rows g kg)) in
    let ns = lists_one node_text (IsNode (length f.cert.nodes)) 11 (λ x. refl) (nodes_one (length f.cert.nodes) kf.certificate.few_nodes) f.cert.nodes g.cert.nodes _ _ n.0 (file_nodes f kf) nodes_g r.1 in
    let ls = lists_one link_text (IsCertLink (length f.cert.nodes)) 7 (λ x. refl) (links_one (length f.cert.nodes) kf.certificate.few_nodes) f.cert.links g.cert.links _ _ m.0 kf.certificate.links_kept links_g ns.1 in
    let many : length rows_f ≡ length rows_g =
    file_rows_count f kf ∙ ap (λ (k : ℕ). row_count k f.cert.nodes) v.0 ∙ ap (row_count g.version) ns.0 ∙ sym (file_rows_count g kg) in
    let rows : flat_map row_text rows_f ++ [] ≡ flat_map row_text rows_g ++ [] = append-nil (flat_map row_text rows_f) ∙ ls.1 ∙ sym (append-nil (flat_map row_text rows_g)) in
    let rs = lists_one row_text (IsFileRow tags (length f.cert.links)) 5 (λ x. refl) (rows_one tags (length f.cert.links) kf.certificate.few_links) rows_f rows_g [] [] many (file_rows f kf) kept_g rows in
    let all = all_rows_one f g kf kg v.0 ns.0 rs.0 kf.of_version kg.of_version in
    λ j. record { version = v.0 j; root = r.0 j; cert = record { nodes = ns.0 j; links = ls.0 j; rows = all j } }

-- ---- the file of whole parts

-- which version it is, by whether it is known which nodes are related
pub none_one : (version : ℕ) (nodes : List CertNode) (kin : Option Kin) → AreKnown version nodes kin → kin ≡ None → version ≡ 1
none_one version nodes kin known is = elim (cases_eq version 1) [
  | inl one ↦ one
  | inr other ↦ let some : kin ≡ Some (kin_of nodes) = rw (ne_eqb version 1 other) at known.index in absurd cc
]

pub some_two : (version : ℕ) (nodes : List CertNode) (kin : Option Kin) (it : Kin) → AreKnown version nodes kin → kin ≡ Some it → (version ≡ 1 → ⊥) × (it ≡ kin_of nodes)
some_two version nodes kin it known is = elim (cases_eq version 1) [
  | inl one ↦ let none : kin ≡ None = rw one at known.index in absurd cc
  | inr other ↦ let some : kin ≡ Some (kin_of nodes) = rw (ne_eqb version 1 other) at known.index in (other, same_Some it (kin_of nodes) (sym is ∙ some))
]

pub whole_for : (header : Header) (parts : Parts) → parts.header ≡ Some header → ((announced : Header) × AreWhole announced parts) → AreWhole header parts
whole_for header parts is (announced, whole) = subst (λ (it : Header). AreWhole it parts) (same_Some announced header (sym whole.header ∙ is)) whole

module _ (header : Header) (parts : Parts) (whole : AreWhole header parts) where
  two_known : (header.version ≡ 1 → ⊥) → header.version ≡ 2
  two_known other = omega (arith, whole.under.header.from_one, whole.under.header.to_two, other)

  few_nodes : length parts.nodes ≤ 65535
  few_nodes = omega (arith, whole.nodes, whole.under.header.few_nodes, few_most_nodes header.version)

  few_links : length parts.links ≤ 65535
  few_links = omega (arith, whole.links, whole.under.header.few_links, few_most_links header.version)

  nodes_kept : AllByRecursion (IsCertNode (length parts.nodes)) parts.nodes
  nodes_kept =
      subst (λ (k : ℕ). AllByRecursion (IsCertNode k) parts.nodes) (sym whole.nodes)
      (all_weaker (IsNode header.nodes) (IsCertNode header.nodes) (λ x keeps. keeps.kept) parts.nodes whole.under.nodes.each)

  links_kept : AllByRecursion (IsCertLink (length parts.nodes)) parts.links
  links_kept = subst (λ (k : ℕ). AllByRecursion (IsCertLink k) parts.links) (sym whole.nodes) whole.under.links.each

  rows_kept : AllByRecursion (IsCertRow (length parts.links)) parts.rows
  rows_kept =
      subst (λ (k : ℕ). AllByRecursion (IsCertRow k) parts.rows) (sym whole.links)
      (all_weaker (IsFileRow (tag_count header.version) header.links) (IsCertRow header.links) (λ x keeps. keeps.kept) parts.rows whole.under.rows.each)

  -- of version 1 the rows are all
  pub one_certificate : header.version ≡ 1 → IsCertificate (certificate_of parts.nodes parts.links parts.rows)
  one_certificate one = record {
    some_node = omega (arith, whole.nodes, whole.under.header.some_node);
    few_nodes = few_nodes;
    few_links = few_links;
    a_row_each = rw one at whole.rows;
    nodes_kept = nodes_kept;
    links_kept = links_kept;
    rows_kept = rows_kept;
  }

  -- of version 2 those of related nodes
  pub parts_folded : (header.version ≡ 1 → ⊥) → IsFolded parts.nodes parts.links parts.rows
  parts_folded other =
      let two = ne_eqb header.version 1 other in
      let heads : head_fault (certificate_of parts.nodes [] []) ≡ None = rw two at (whole.under.known whole.nodes).heads in
      let sound = heads_sound (certificate_of parts.nodes [] []) heads in
      let few : tag_count header.version ≡ 6 = rw two refl in
      record {
        unfolds = record {
          few_nodes = few_nodes;
          nodes_kept = nodes_kept;
          rows_near = all_weaker (IsFileRow (tag_count header.version) header.links) (λ row. is_near row ≡ true) (λ row keeps. tag_near row (omega (arith, keeps.tagged, few))) parts.rows whole.under.rows.each;
          a_row_each = rw two at whole.rows;
          top = sound.top;
          least = sound.least;
          chains = sound.chains;
        };
        few_links = few_links;
        links_kept = links_kept;
        rows_kept = rows_kept;
      }

  -- the bytes spell a certificate of these nodes and links, from whose rows those in the file are taken
  module _ (cert : Certificate) (nodes : cert.nodes ≡ parts.nodes) (links : cert.links ≡ parts.links) (is : IsCertificate cert) where
    text_is : rows_in header.version cert.rows ≡ parts.rows → text_of parts ≡ cert_text (record { version = header.version; root = header.root; cert = cert })
    text_is rows =
        let made : List CertNode → List CertLink → List Row → List ℕ = λ ns ls rs. header_text header.version (length ns) (length ls) header.root ++ (flat_map node_text ns ++ (flat_map link_text ls ++ flat_map row_text rs)) in
        let lists : List ℕ = flat_map node_text parts.nodes ++ (flat_map link_text parts.links ++ flat_map row_text parts.rows) in
        ap (λ (it : Option Header). text_of_header it ++ lists) whole.header
        ∙ ap (λ (n : ℕ). header_text header.version n header.links header.root ++ lists) (sym whole.nodes)
        ∙ ap (λ (n : ℕ). header_text header.version (length parts.nodes) n header.root ++ lists) (sym whole.links)
        ∙ ap (λ (ns : List CertNode). made ns parts.links parts.rows) (sym nodes) ∙ ap (λ (ls : List CertLink). made cert.nodes ls parts.rows) (sym links) ∙ ap (made cert.nodes cert.links) (sym rows)

    have_numbers : AllByRecursion HasNumber cert.nodes
    have_numbers = subst (AllByRecursion HasNumber) (sym nodes) (all_weaker (IsNode header.nodes) HasNumber (λ x keeps. keeps.number) parts.nodes whole.under.nodes.each)

    of_one : header.version ≡ 1 → IsOfVersion (record { version = header.version; root = header.root; cert = cert })
    of_one one =
        let most : header.nodes ≤ 2048 = rw one at whole.under.header.few_nodes in
        let more : header.links ≤ 8192 = rw one at whole.under.header.few_links in
        inl (record { version = one; nodes = omega (arith, whole.nodes, most, ap length nodes); links = omega (arith, whole.links, more, ap length links) })

    of_two : (header.version ≡ 1 → ⊥) → IsFoldable cert → IsOfVersion (record { version = header.version; root = header.root; cert = cert })
    of_two other folds = inr (record {
      version = two_known other;
      nodes = omega (arith, whole.nodes, whole.under.header.few_nodes, few_most_nodes header.version, ap length nodes);
      links = omega (arith, whole.links, whole.under.header.few_links, few_most_links header.version, ap length links);
      foldable = folds;
    })

    pub file_one : header.version ≡ 1 → cert.rows ≡ parts.rows → IsFileOf (text_of parts) (record { version = header.version; root = header.root; cert = cert })
    file_one one rows = (
      record { certificate = is; root = whole.under.header.root_fits; numbers = have_numbers; of_version = of_one one },
      text_is (ap (λ (it : ℕ). rows_in it cert.rows) one ∙ all_stand cert.rows ∙ rows),
    )

    pub file_two : (header.version ≡ 1 → ⊥) → filter is_near cert.rows ≡ parts.rows → IsFoldable cert → IsFileOf (text_of parts) (record { version = header.version; root = header.root; cert = cert })
    file_two other near folds = (
      record { certificate = is; root = whole.under.header.root_fits; numbers = have_numbers; of_version = of_two other folds },
      text_is (ap (λ (it : ℕ). rows_in it cert.rows) (two_known other) ∙ near),
    )

  -- there is such a file
  pub file_of : (f : CertFile) × IsFileOf (text_of parts) f
  file_of = elim (cases_eq header.version 1) [
    | inl one ↦
        let cert = certificate_of parts.nodes parts.links parts.rows in
        (record { version = header.version; root = header.root; cert = cert }, file_one cert refl refl (one_certificate one) one refl)
    | inr other ↦
        let is = parts_folded other in
        let cert = certificate_of parts.nodes parts.links (unfolded_rows parts.nodes parts.rows) in (
          record { version = header.version; root = header.root; cert = cert },
          file_two cert refl refl (folded_certificate parts.nodes parts.links parts.rows is) other (same_near parts.nodes parts.rows is.unfolds) (folds parts.nodes parts.rows is.unfolds parts.links),
        )
  ]

-- ---- the end of a stream

same_stream : (x y : List ℕ) → ◌≡◌ {A = Progress} (Ok x) (Ok y) → x ≡ y
same_stream x y e = cc

-- what is spelled so is read
pub spelled_is_read : (progress : Progress) (answer : Result CertFile CertFault) → Finishes progress answer → (f : CertFile) → IsCertFile f → progress ≡ Ok (cert_text f) → answer ≡ Ok f
spelled_is_read progress (Ok g) finishes f is e = ap Ok (one_file g f finishes.0 is (same_stream (cert_text g) (cert_text f) (sym finishes.1 ∙ e)))
spelled_is_read progress (Err fault) finishes f is e = let none = ap end_fault e ∙ no_fault f is in absurd cc

-- the first fault is answered
pub first_is_answered : (progress : Progress) (answer : Result CertFile CertFault) → Finishes progress answer → (at : ℕ) (kind : CertKind) → end_fault progress ≡ Some (at, kind)
    → answer ≡ Err (record { at = at; kind = kind })
first_is_answered progress (Ok g) finishes at kind e = let none = ap end_fault finishes.1 ∙ no_fault g finishes.0 in absurd cc
first_is_answered progress (Err fault) finishes at kind e =
    ap (λ (p : ℕ × CertKind). Err (record { at = p.0; kind = p.1 })) (same_fault (fault.at, fault.kind) (at, kind) (sym finishes ∙ e))
