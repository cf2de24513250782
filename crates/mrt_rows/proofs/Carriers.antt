-- The carrier, by the directions.
use Rattle.std.proofs.Common.{◌≡◌, ◌≢◌, ◌==◌, ℕ, Option, refl, subst, inl, inr}
use Rattle.std.proofs.lemmas.Bool.{eq-eqb, ne_eqb}
use Rattle.std.proofs.lemmas.Bool.Decides.{eqb_tells}
use Rattle.std.specs.Prelude.{if◌then◌else◌}
use Rattle.mrt_graph.specs.declared.cert.Row.{Row}
use Rattle.link_direction.specs.CommonBlock.{HaveCommonBlock}
use Rattle.link_direction.specs.Directions.{Directions}
use Rattle.mrt_rows.specs.RowLines.{CarriedLine, HasLinksFor}

-- the carrier of s for t: the head of t, or where t is the root, the head of s
abbrev pub carrier_by : Directions → ℕ → ℕ → ℕ → ℕ
carrier_by w root s t = if t == root then w.head s else w.head t

pub by_other : (w : Directions) (root s t : ℕ) → t ≢ root → carrier_by w root s t ≡ w.head t
by_other w root s t other = rw (ne_eqb t root other) refl

pub by_root : (w : Directions) (root s t : ℕ) → t ≡ root → carrier_by w root s t ≡ w.head s
by_root w root s t same = rw (eq-eqb t root same) refl

-- what holds of the head of t, or where t is the root of that of s, holds of it
pub at_carrier : (P : ℕ → Type 0) (w : Directions) (root s t : ℕ) → (t ≢ root → P (w.head t)) → (t ≡ root → P (w.head s))
    → P (carrier_by w root s t)
at_carrier P w root s t other home = elim (eqb_tells t root) [
  | inl same ↦ rw same.0 (home same.1)
  | inr apart ↦ rw apart.0 (other apart.1)
]

-- a carried row has the links of the row for the carrier
pub links_carried : (root : ℕ) (w : Directions) (s : ℕ) (rows : ℕ → Option Row) (t : ℕ) (row : Row) → CarriedLine root w s rows t row
    → HasLinksFor rows (carrier_by w root s t) row
links_carried root w s rows t row line = at_carrier (λ (x : ℕ). HasLinksFor rows x row) w root s t line.to_other line.to_root

-- and a row that has them is carried
pub line_carried : (root : ℕ) (w : Directions) (s : ℕ) (rows : ℕ → Option Row) (t : ℕ) (row : Row)
    → ((k h : ℕ) → ¬ HaveCommonBlock w s t k h) → HasLinksFor rows (carrier_by w root s t) row → CarriedLine root w s rows t row
line_carried root w s rows t row apart links = record {
  apart = apart;
  to_other = λ other. subst (λ (x : ℕ). HasLinksFor rows x row) (by_other w root s t other) links;
  to_root = λ same. subst (λ (x : ℕ). HasLinksFor rows x row) (by_root w root s t same) links;
}
