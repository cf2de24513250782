use Rattle.std.proofs.Common.{◌∙◌, ℕ, List, Option, length, sym, ap, subst}
use Rattle.std.proofs.lemmas.List.{with_items_is}
use Rattle.mrt_rows.specs.Chain.{AreBelow}
use Rattle.mrt_rows.specs.steps.ListedDirections.{directions_by}
use Rattle.mrt_rows.proofs.HeldColumns.{climbed}
use Rattle.mrt_rows.proofs.column.Columns.aim.Goals as goal

pub put_below-requires-clause-one_each : goal.put_below-requires-clause-one_each
put_below-requires-clause-one_each c = ap (λ (xs : List (Option ℕ)). length xs) c.deref_mut.ensures.value ∙ c.place_for-at.ensures.held.one_below_each

pub returns-clause-aimed : goal.returns-clause-aimed
returns-clause-aimed c =
    let rooted = c.args.rooted.now in
    let held = c.place_for-at.new.self in
    let same = with_items_is held.below c.put_below.new.below (c.put_below.auto.below ∙ c.deref_mut.ensures.len) in
    record {
      rooted = c.requires.rooted;
      within = c.requires.to;
      held = climbed rooted.graph.now rooted.root (directions_by rooted) held _ (ap (λ (xs : List (Option ℕ)). length xs) same ∙ c.put_below.ensures.one_each)
          c.place_for-at.ensures.held;
      below = subst (λ (xs : List (Option ℕ)). AreBelow rooted.graph.now rooted.root (directions_by rooted) c.args.to xs) (sym same) c.put_below.ensures;
      place = c.place_for-at.ensures.place;
    }
