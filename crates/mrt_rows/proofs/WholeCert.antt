-- There is a certificate of each graph with a GADAG in order, and its rows are those of all nodes.
use Rattle.std.proofs.Common.{◌≡◌, ◌≢◌, ◌∙◌, ◌<◌, ◌-◌, ◌*◌, ℕ, zero, suc, List, [], ◌∷◌, Option, Some, length, replicate, slice_get, refl, sym, ap, subst, inl, inr, arith}
use Rattle.std.proofs.lemmas.Bool.{cases_eq, cases_lt}
use Rattle.std.proofs.lemmas.List.{length-replicate}
use Rattle.std.proofs.lemmas.Option.{same_Some}
use Rattle.mrt_graph.specs.declared.cert.CertFile.{CertFile}
use Rattle.mrt_graph.specs.declared.cert.CertLink.{CertLink}
use Rattle.mrt_graph.specs.declared.cert.CertNode.{CertNode}
use Rattle.mrt_graph.specs.declared.cert.Row.{Row}
use Rattle.mrt_graph.specs.declared.cert.Tag.TheVariants as tags
use Rattle.mrt_graph.specs.Certificate.{certificate_of, row_of}
use Rattle.mrt_graph.specs.RowPlace.{place_of_row}
use Rattle.mrt_graph.proofs.ListTests.{there}
use Rattle.mrt_rows.specs.CertOf.{AreLinkWords, AreNodeWords, Tells, file_of, link_words, node_words}
use Rattle.mrt_rows.specs.steps.RowsOf.{AreAllRows, row_among}
use Rattle.mrt_rows.proofs.AllRows.{row_is}
use Rattle.mrt_rows.proofs.CertMade.{cert_tells}
use Rattle.mrt_rows.proofs.OneRow.{HasTheRow, has_all}
use Rattle.mrt_rows.proofs.OrderedGraphs.{OrderedGraph}
use Rattle.mrt_graph.proofs.RowPlaces.{placed, row_at}
pub use Rattle.mrt_rows.proofs.RowsExist.{each_has, each_row}
use Rattle.mrt_rows.proofs.RowsExist.{each_the}
use Rattle.mrt_rows.proofs.RowsPut.{place_within, places_differ}

-- what each place of a list and the element there give
abbrev pub numbered : {X Y : Type 0} → (ℕ → Y → X) → List Y → List X
numbered f [] = []
numbered f (y ∷ ys) = f 0 y ∷ numbered (λ k. f (suc k)) ys

pub as_many : {X Y : Type 0} (f : ℕ → Y → X) (ys : List Y) → length (numbered f ys) ≡ length ys
as_many f [] = refl
as_many f (y ∷ ys) = ap suc (as_many (λ k. f (suc k)) ys)

pub numbered_at : {X Y : Type 0} (f : ℕ → Y → X) (ys : List Y) (i : ℕ) (y : Y) → slice_get ys i ≡ Some y → slice_get (numbered f ys) i ≡ Some (f i y)
numbered_at f [] i y is = cc
numbered_at f (x ∷ ys) zero y is = ap (λ z. Some (f 0 z)) (same_Some x y is)
numbered_at f (x ∷ ys) (suc i) y is = numbered_at (λ k. f (suc k)) ys i y is

module _ (og : OrderedGraph) where
  abbrev n : ℕ
  n = length og.g.ids

  -- one after another
  abbrev IsAt : ℕ → Row → Type 0
  IsAt k row = (s t : ℕ) → s < n → t < n → s ≢ t → place_of_row n s t ≡ k → each_row og s t ≡ Some row

  row_there : (k : ℕ) → k < n * (n - 1) → (row : Row) × IsAt k row
  row_there k within =
      let at = placed n k within in
      let it = each_the og at.source at.target at.source_within at.target_within at.two in
      (it.row, one at.source at.target it.row at.source_within at.target_within at.two at.place it.is)
    where
      one : (u v : ℕ) (row : Row) → u < n → v < n → u ≢ v → place_of_row n u v ≡ k → each_row og u v ≡ Some row → IsAt k row
      one u v row u_within v_within apart here is s t s_within t_within two place = elim (cases_eq s u) [
        | inl same ↦ elim (cases_eq t v) [
          | inl same_too ↦ ap (λ (x : ℕ). each_row og x t) same ∙ ap (each_row og u) same_too ∙ is
          | inr other ↦ absurd (places_differ n u v s t u_within v_within apart s_within t_within two (inr other) (place ∙ sym here))
        ]
        | inr other ↦ absurd (places_differ n u v s t u_within v_within apart s_within t_within two (inl other) (place ∙ sym here))
      ]

  entry : (k : ℕ) → (row : Row) × (k < n * (n - 1) → IsAt k row)
  entry k = elim (cases_lt k (n * (n - 1))) [
    | inl within ↦ let it = row_there k within in (it.0, λ again. it.1)
    | inr past ↦ (record { blue = 0; red = 0; tag = tags.Carried }, λ again. absurd (omega (arith, again, past)))
  ]

  rows : List Row
  rows = numbered (λ k root. (entry k).0) (replicate (n * (n - 1)) og.root)

  row_found : (s t : ℕ) → s < n → t < n → s ≢ t → row_among n rows s t ≡ each_row og s t
  unfolding rows
  row_found s t s_within t_within two =
      let k = place_of_row n s t in
      let within = place_within n s t s_within t_within two in
      let at = there (replicate (n * (n - 1)) og.root) k (omega (arith, within, length-replicate (n * (n - 1)) og.root)) in
      row_is n rows s t s_within t_within two ∙ numbered_at (λ k root. (entry k).0) (replicate (n * (n - 1)) og.root) k at.0 at.1
      ∙ sym ((entry k).1 within s t s_within t_within two refl)

  rows_are : AreAllRows og.g og.root og.w rows
  unfolding rows
  rows_are = record {
    count = as_many (λ k root. (entry k).0) (replicate (n * (n - 1)) og.root) ∙ length-replicate (n * (n - 1)) og.root;
    each = λ s t s_within. has_all og s s_within (row_among n rows s)
        (λ u within apart. subst (λ (o : Option Row). HasTheRow og s u o) (sym (row_found s u s_within within apart)) (each_the og s u s_within within apart)) t;
  }

  -- the words
  nodes : List CertNode
  nodes = numbered (node_words og.w) og.g.ids

  links : List CertLink
  links = numbered (link_words og.w) og.g.links

  nodes_are : AreNodeWords og.g og.w nodes
  unfolding nodes
  nodes_are = record { one_each = as_many (node_words og.w) og.g.ids; each = numbered_at (node_words og.w) og.g.ids }

  links_are : AreLinkWords og.g og.w links
  unfolding links
  links_are = record { one_each = as_many (link_words og.w) og.g.links; each = numbered_at (link_words og.w) og.g.links }

  pub whole_file : CertFile
  whole_file =
      file_of (there og.g.ids og.root og.ordered.root_within).0 (certificate_of nodes links rows)

  pub whole_tells : Tells og.g og.root og.w whole_file
  unfolding whole_file
  whole_tells =
      let id = there og.g.ids og.root og.ordered.root_within in
      cert_tells og nodes links rows nodes_are links_are rows_are id.0 id.1

  pub whole_row : (s t : ℕ) → s < n → t < n → s ≢ t → row_of whole_file.cert s t ≡ each_row og s t
  unfolding whole_file
  whole_row s t s_within t_within two =
      row_at whole_file.cert n s t whole_tells.nodes.one_each s_within t_within two
      ∙ sym (row_is n rows s t s_within t_within two) ∙ row_found s t s_within t_within two
