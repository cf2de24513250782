-- The near rows of a source, one destination after another.
use Rattle.std.proofs.Common.{◌≡◌, ◌≢◌, ◌∙◌, ◌<◌, ◌+◌, ◌++◌, ◌==◌, ℕ, Bool, false, zero, suc, true, List, [], ◌∷◌, Option, Some, None, length, not, set, take, refl, sym, ap, subst, arith, append-nil, inl, inr}
use Rattle.std.proofs.lemmas.Bool.{cases_eq, eqb-false, ne_eqb, not-true}
use Rattle.mrt_graph.specs.declared.cert.Row.{Row}
use Rattle.mrt_graph.specs.declared.cert.Tag.{Tag}
use Rattle.mrt_graph.specs.declared.cert.Tag.TheVariants as tags
use Rattle.mrt_graph.specs.Tags.{is_near, same_tag}
use Rattle.mrt_rows.specs.steps.NearOf.{Apart, InCommon, IsNearRow, near_first, near_in}
use Rattle.mrt_rows.specs.RowLines.{LineOf}
use Rattle.mrt_rows.specs.RowsOf.{HasRow}
use Rattle.mrt_rows.proofs.CarriedRows.{carried_tag, row_near}
use Rattle.mrt_rows.proofs.OrderedGraphs.{OrderedGraph}

-- a row that is not carried is near
near_by : (tag : Tag) → tag ≢ tags.Carried → not (same_tag tag tags.Carried) ≡ true
near_by tags.Sole other = refl
near_by tags.Head other = refl
near_by tags.Top other = refl
near_by tags.Below other = refl
near_by tags.Above other = refl
near_by tags.Unordered other = refl
near_by tags.Carried other = absurd (other refl)

near_alone : (row : Row) → row.tag ≢ tags.Carried → near_in (Some row) ≡ row ∷ []
near_alone row other = rw (near_by row.tag other) refl

far_alone : (row : Row) → row.tag ≡ tags.Carried → near_in (Some row) ≡ []
far_alone row same = let is : is_near row ≡ not (same_tag tags.Carried tags.Carried) = ap (λ (T : Tag). not (same_tag T tags.Carried)) same in rw is refl

-- a row more in the room
pub row_more : (room : List Row) (found : ℕ) (row : Row) → found < length room → take (found + 1) (set room found row) ≡ take found room ++ row ∷ []
row_more [] found row within = absurd (omega (arith, within))
row_more (x ∷ room) zero row within = refl
row_more (x ∷ room) (suc found) row within =
    let next : suc found + 1 ≡ suc (found + 1) = omega arith in
    ap (λ (k : ℕ). take k (x ∷ set room found row)) next ∙ ap (λ (xs : List Row). x ∷ xs) (row_more room found row (omega (arith, within)))

module _ (og : OrderedGraph) (s : ℕ) (s_within : s < length og.g.ids) (rows : ℕ → Option Row)
    (has : (t : ℕ) → t < length og.g.ids → s ≢ t → HasRow og.g og.root og.w s rows t) where
  -- the row for a node with which s has a block in common is near
  near_there : (t : ℕ) (row : Row) → t < length og.g.ids → s ≢ t → IsNearRow og.g og.root og.w s t (Some row) → near_in (rows t) ≡ row ∷ []
  near_there t row t_within two (InCommon row' k h common own) =
      let is = row_near og s s_within rows has t k h row t_within two common (own.line rows) in
      ap near_in is
      ∙ near_alone row (λ same. (subst (λ (T : Tag). LineOf T og.g og.root og.w s rows t row) same (own.line rows)).apart k h common)

  -- that for another is not
  far_there : (t : ℕ) → t < length og.g.ids → s ≢ t → IsNearRow og.g og.root og.w s t None → near_in (rows t) ≡ []
  far_there t t_within two (Apart none) =
      let it = has t t_within two in
      ap near_in it.is ∙ far_alone it.row (carried_tag og s s_within rows has t it.row it.row.tag it.line none)

  -- the row for t is put, where there is one
  pub some_found : (room : List Row) (found t : ℕ) (row : Row) → found < length room → t < length og.g.ids → s ≢ t
      → IsNearRow og.g og.root og.w s t (Some row) → take found room ≡ near_first rows t
      → take (found + 1) (set room found row) ≡ near_first rows (t + 1)
  some_found room found t row within t_within two near so_far =
      let next : suc t ≡ t + 1 = omega arith in
      row_more room found row within ∙ ap (λ (xs : List Row). xs ++ row ∷ []) so_far
      ∙ ap (λ (xs : List Row). near_first rows t ++ xs) (sym (near_there t row t_within two near)) ∙ ap (near_first rows) next

  pub none_found : (room : List Row) (found t : ℕ) → t < length og.g.ids → s ≢ t → IsNearRow og.g og.root og.w s t None
      → take found room ≡ near_first rows t → take found room ≡ near_first rows (t + 1)
  none_found room found t t_within two near so_far =
      let next : suc t ≡ t + 1 = omega arith in
      so_far ∙ sym (append-nil (near_first rows t)) ∙ ap (λ (xs : List Row). near_first rows t ++ xs) (sym (far_there t t_within two near))
      ∙ ap (near_first rows) next

-- none stands for the source itself
pub own_found : (s : ℕ) (rows : ℕ → Option Row) (room : List Row) (found t : ℕ) → t ≡ s → rows s ≡ None → take found room ≡ near_first rows t
    → take found room ≡ near_first rows (t + 1)
own_found s rows room found t same none so_far =
    let next : suc t ≡ t + 1 = omega arith in
    so_far ∙ sym (append-nil (near_first rows t)) ∙ ap (λ (xs : List Row). near_first rows t ++ xs) (sym (ap near_in (ap rows same ∙ none)))
    ∙ ap (near_first rows) next

-- two nodes that do not differ
pub same_by : (a b : ℕ) (differ : Bool) → differ ≡ not (a == b) → differ ≡ false → a ≡ b
same_by a b differ is fails = elim (cases_eq a b) [
  | inl same ↦ same
  | inr other ↦ let yes : differ ≡ true = rw (ne_eqb a b other) at is in absurd (cc)
]

-- and two that do
pub differ_by : (a b : ℕ) (differ : Bool) → differ ≡ not (a == b) → differ ≡ true → a ≢ b
differ_by a b differ is holds = eqb-false a b (not-true (a == b) (sym is ∙ holds))
