-- Rows of related nodes among all rows.
use Rattle.std.proofs.Common.{◌≡◌, ◌∙◌, ◌<◌, ℕ, zero, suc, Bool, true, false, List, [], ◌∷◌, Some, filter, length, slice_get, take, refl, ap, arith}
use Rattle.std.specs.List.{AllByRecursion}
use Rattle.std.proofs.lemmas.Option.{same_Some}
use Rattle.mrt_graph.specs.declared.cert.Row.{Row}
use Rattle.mrt_graph.specs.RelatedPairs.{set_marks}
use Rattle.mrt_graph.specs.Tags.{is_near}

-- before a mark that is set there are fewer than in all
pub mark_less : (marks : List Bool) (k : ℕ) → slice_get marks k ≡ Some true → set_marks (take k marks) < set_marks marks
mark_less [] k is = cc
mark_less (true ∷ marks) zero is = omega arith
mark_less (true ∷ marks) (suc k) is = omega (arith, mark_less marks k is)
mark_less (false ∷ marks) zero is = cc
mark_less (false ∷ marks) (suc k) is = mark_less marks k is

-- rows that are near exactly at the marks, where they are the near ones in turn
pub near_are : (marks : List Bool) (rows near : List Row) → length rows ≡ length marks → length near ≡ set_marks marks
    → ((k : ℕ) → slice_get marks k ≡ Some true → slice_get rows k ≡ slice_get near (set_marks (take k marks)))
    → ((k : ℕ) (row : Row) → slice_get marks k ≡ Some false → slice_get rows k ≡ Some row → is_near row ≡ false)
    → AllByRecursion (λ row. is_near row ≡ true) near → filter is_near rows ≡ near
near_are [] [] [] many count set unset near_all = refl
near_are [] [] (x ∷ near) many count set unset near_all = absurd (omega (arith, count))
near_are [] (r ∷ rows) near many count set unset near_all = absurd (omega (arith, many))
near_are (m ∷ marks) [] near many count set unset near_all = absurd (omega (arith, many))
near_are (true ∷ marks) (r ∷ rows) [] many count set unset near_all = absurd (omega (arith, count))
near_are (true ∷ marks) (r ∷ rows) (x ∷ near) many count set unset near_all =
    let first : r ≡ x = same_Some r x (set 0 refl) in
    let passes : is_near r ≡ true = ap is_near first ∙ near_all.0 in
    let rest = near_are marks rows near (omega (arith, many)) (omega (arith, count)) (λ k is. set (suc k) is) (λ k row is at. unset (suc k) row is at) near_all.1 in
    rw passes (ap (λ (row : Row). row ∷ filter is_near rows) first ∙ ap (λ (rs : List Row). x ∷ rs) rest)
near_are (false ∷ marks) (r ∷ rows) near many count set unset near_all =
    let fails : is_near r ≡ false = unset 0 r refl refl in
    let rest = near_are marks rows near (omega (arith, many)) count (λ k is. set (suc k) is) (λ k row is at. unset (suc k) row is at) near_all in
    rw fails rest
