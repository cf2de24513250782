-- The rows of a certificate, by what it holds.
use Rattle.std.proofs.Common.{◌≡◌, ◌≢◌, ◌∙◌, ◌<◌, ◌≤◌, ◌*◌, ℕ, true, false, List, [], ◌∷◌, Option, Some, None, filter, get_or, length, slice_get, refl, sym, ap, subst}
use Rattle.std.specs.List.{AllByRecursion}
use Rattle.std.proofs.lemmas.Option.{slice_get-get_or}
use Rattle.mrt_graph.specs.declared.cert.CertLink.{CertLink}
use Rattle.mrt_graph.specs.declared.cert.CertNode.{CertNode}
use Rattle.mrt_graph.specs.declared.cert.Row.{Row}
use Rattle.mrt_graph.specs.Certificate.{Certificate, IsCertificate, IsCertRow, certificate_of, row_of}
use Rattle.mrt_graph.specs.Foldable.{IsFoldable}
use Rattle.mrt_graph.specs.steps.FoldedRows.{IsHeld, IsIndexed, held, unfolded_row}
use Rattle.mrt_graph.specs.FoldedRows.{IsUnfoldable}
use Rattle.mrt_graph.specs.Kin.{Kin, kin_of}
use Rattle.mrt_graph.specs.steps.NodeRows.{AreHeldRows}
use Rattle.mrt_graph.specs.Related.{are_unrelated}
use Rattle.mrt_graph.specs.RelatedPairs.{place_of_near}
use Rattle.mrt_graph.specs.RowPlace.{place_of_row}
use Rattle.mrt_graph.specs.Tags.{is_near}
use Rattle.mrt_graph.proofs.ListTests.{all_at}
use Rattle.mrt_graph.proofs.RowPlaces.{row_at}
use Rattle.mrt_graph.proofs.Unfolding.{few_near, folds, near_read, near_there, row_is, row_near, same_near}

-- what an index says
pub indexed : (nodes : List CertNode) (links : List CertLink) (rows : List Row) (o : Option Kin) (kin : Kin) → IsHeld nodes links rows o → o ≡ Some kin → IsIndexed nodes links rows kin
indexed nodes links rows o kin is some = (subst (IsHeld nodes links rows) some is).1

pub kept : (nodes : List CertNode) (links : List CertLink) (rows : List Row) (o : Option Kin) (cert : Certificate) → IsHeld nodes links rows o → held nodes links rows o ≡ cert → IsCertificate cert
kept nodes links rows o cert is same = subst IsCertificate same is.0

pub foldable_held : (nodes : List CertNode) (links : List CertLink) (rows : List Row) (o : Option Kin) (kin : Kin) (cert : Certificate) → IsHeld nodes links rows o
    → o ≡ Some kin → held nodes links rows o ≡ cert → IsFoldable cert
foldable_held nodes links rows o kin cert is some same =
    subst IsFoldable (sym (ap (held nodes links rows) some) ∙ same) (folds nodes rows (indexed nodes links rows o kin is some).folded.unfolds links)

-- the nodes are those that it holds
pub nodes_held : (nodes : List CertNode) (links : List CertLink) (rows : List Row) (o : Option Kin) → (held nodes links rows o).nodes ≡ nodes
nodes_held nodes links rows None = refl
nodes_held nodes links rows (Some kin) = refl

pub near_held : (nodes : List CertNode) (links : List CertLink) (rows : List Row) (o : Option Kin) → IsHeld nodes links rows o → filter is_near rows ≡ filter is_near (held nodes links rows o).rows
near_held nodes links rows None is = refl
near_held nodes links rows (Some kin) is = filter_near rows is.1.folded.unfolds.rows_near ∙ sym (same_near nodes rows is.1.folded.unfolds)
  where
    filter_near : (xs : List Row) → AllByRecursion (λ row. is_near row ≡ true) xs → filter is_near xs ≡ xs
    filter_near [] all = refl
    filter_near (x ∷ xs) all = rw all.0 (ap (λ (ys : List Row). x ∷ ys) (filter_near xs all.1))

-- ---- one row

pub folded_row : (nodes : List CertNode) (links : List CertLink) (rows : List Row) (o : Option Kin) (kin : Kin) (cert : Certificate) (s t : ℕ) (row : Row)
    → held nodes links rows o ≡ cert → o ≡ Some kin → IsHeld nodes links rows o → s < length nodes → t < length nodes → s ≢ t
    → row ≡ unfolded_row (certificate_of nodes [] []) rows s t → row_of cert s t ≡ Some row
folded_row nodes links rows o kin cert s t row same some is s_within t_within two row_as =
    sym (ap (λ (c : Certificate). row_of c s t) (sym (ap (held nodes links rows) some) ∙ same))
    ∙ row_is nodes rows (indexed nodes links rows o kin is some).folded.unfolds links s t s_within t_within two ∙ ap (λ (r : Row). Some r) (sym row_as)

-- its links are in range
pub row_kept : (cert : Certificate) (s t : ℕ) (row : Row) → IsCertificate cert → s < length cert.nodes → t < length cert.nodes → s ≢ t
    → row_of cert s t ≡ Some row → IsCertRow (length cert.links) row
row_kept cert s t row is s_within t_within two at =
    all_at (IsCertRow (length cert.links)) cert.rows (place_of_row (length cert.nodes) s t) row is.rows_kept
    (sym (row_at cert (length cert.nodes) s t refl s_within t_within two) ∙ at)

-- ---- the rows of one node

-- what is held is held of the certificate
pub held_of : (nodes : List CertNode) (links : List CertLink) (rows : List Row) (o : Option Kin) (cert : Certificate) → held nodes links rows o ≡ cert
    → IsHeld nodes links rows o → AreHeldRows cert rows o
held_of nodes links rows None cert same is = subst (λ (c : Certificate). AreHeldRows c rows None) same (record { same = refl; kept = is })
held_of nodes links rows (Some kin) cert same is = subst (λ (c : Certificate). AreHeldRows c rows (Some kin)) same (record { same = refl; kept = is })

pub certificate_held : (c : Certificate) (rows : List Row) (o : Option Kin) → AreHeldRows c rows o → IsCertificate c
certificate_held c rows o is = subst IsCertificate is.same is.kept.0

-- a row where all are held
pub all_row_is : (c : Certificate) (rows : List Row) (s t place : ℕ) (row : Row) → AreHeldRows c rows None → s < length c.nodes → t < length c.nodes → s ≢ t
    → place ≡ place_of_row (length c.nodes) s t → place < length rows → row ≡ get_or rows place row → row_of c s t ≡ Some row
all_row_is c rows s t place row is s_within t_within two at within read =
    row_at c (length c.nodes) s t refl s_within t_within two ∙ ap (slice_get c.rows) (sym at)
    ∙ ap (λ (x : Certificate). slice_get x.rows place) (sym is.same) ∙ slice_get-get_or rows place row within ∙ ap (λ (r : Row). Some r) (sym read)

module _ (c : Certificate) (rows : List Row) (kin : Kin) (is : AreHeldRows c rows (Some kin)) where
  pub index_is : kin ≡ kin_of c.nodes
  index_is = is.kept.1.index

  pub few_held : length rows ≤ 65535 * 65535
  few_held = few_near c.nodes rows is.kept.1.folded.unfolds

  module _ (s t : ℕ) (s_within : s < length c.nodes) (t_within : t < length c.nodes) (two : s ≢ t) (related : are_unrelated c s t ≡ false) where
    -- the row for a related node is one of them
    pub near_within : place_of_near c s t < length rows
    near_within = near_there c.nodes rows is.kept.1.folded.unfolds s t s_within t_within two related

    pub near_row_is : (row : Row) → row ≡ get_or rows (place_of_near c s t) row → row_of c s t ≡ Some row
    near_row_is row read =
        let u : IsUnfoldable c.nodes rows = is.kept.1.folded.unfolds in
        sym (ap (λ (x : Certificate). row_of x s t) is.same) ∙ row_is c.nodes rows u c.links s t s_within t_within two
        ∙ ap (λ (r : Row). Some r) (row_near c.nodes rows u s t related) ∙ sym (near_read c.nodes rows u s t s_within t_within two related)
        ∙ slice_get-get_or rows (place_of_near c s t) row near_within ∙ ap (λ (r : Row). Some r) (sym read)
