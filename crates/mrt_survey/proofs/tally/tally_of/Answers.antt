use Rattle.std.proofs.Common.{◌≡◌, ◌∙◌, ◌+◌, ◌≤◌, ◌∷◌, ℕ, Bool, true, false, List, Some, drop, inl, inr, length, slice_get, ap, arith, if◌then◌else◌}
use Rattle.std.specs.List.{filter, sum_by}
use Rattle.std.proofs.lemmas.Bool.{cases_Bool}
use Rattle.std.proofs.lemmas.List.{drop_more}
use Rattle.std.proofs.lemmas.List.Sums.{sum_by-cons}
use Rattle.std.proofs.lemmas.Option.{get_or_from_slice_get, slice_get_within}
use Rattle.mrt_graph.specs.declared.cert.Row.{Row}
use Rattle.mrt_graph.specs.Tags.{is_near}
use Rattle.mrt_survey.specs.SurveyText.{is_carried}
use Rattle.mrt_survey.proofs.tally.tally_of.Goals as goal

module _ (rows : List Row) (place : ℕ) (row : Row) (is : slice_get rows place ≡ Some row) where
  split : drop place rows ≡ row ∷ drop (place + 1) rows
  split = drop_more rows place row (slice_get_within rows place row is)
      ∙ ap (λ (r : Row). r ∷ drop (place + 1) rows) (get_or_from_slice_get rows place row row is)

  counted : (p : Row → Bool) → length (filter p (drop place rows)) ≡ (if p row then 1 else 0) + length (filter p (drop (place + 1) rows))
  counted p = ap (λ (xs : List Row). length (filter p xs)) split ∙ elim (cases_Bool (p row)) [ inl here ↦ rw here (omega arith) | inr not_here ↦ rw not_here (omega arith) ]

  summed : (f : Row → ℕ) → sum_by f (drop place rows) ≡ f row + sum_by f (drop (place + 1) rows)
  summed f = ap (sum_by f) split ∙ sum_by-cons f row (drop (place + 1) rows)

at_most_one : (b : Bool) → (if b then 1 else 0) ≤ 1
at_most_one true = omega arith
at_most_one false = omega arith

pub loop-place-preserved : goal.loop-place-preserved
loop-place-preserved c =
    let rows = c.args.c.now.rows in
    let place = c.loop-place.place in
    let row = c.row_at.result in
    let is = c.row_at.ensures in
    let new = c.with_row-tally.ensures in
    let old = c.loop-place.invariant in
    record {
      common = omega (arith, counted rows place row is is_near, new.common, old.common);
      carried = omega (arith, counted rows place row is is_carried, new.carried, old.carried);
      blue = omega (arith, summed rows place row is (λ r. r.blue), new.blue, old.blue);
      red = omega (arith, summed rows place row is (λ r. r.red), new.red, old.red);
      common_most = omega (arith, new.common, old.common_most, at_most_one (is_near row));
      carried_most = omega (arith, new.carried, old.carried_most, at_most_one (is_carried row));
      blue_most = omega (arith, new.blue, new.small.0, old.blue_most);
      red_most = omega (arith, new.red, new.small.1, old.red_most);
    }
