use Rattle.std.proofs.Common.{◌≡◌, ◌∙◌, ◌<◌, ℕ, Bool, List, Option, Some, None, IsSome, if◌then◌else◌, true, false, length, slice_get, refl, sym, ap, subst, arith}
use Rattle.std.proofs.lemmas.Option.{get_or_from_slice_get, none-some, option_and_then_some, same_Some, slice_get_within}
use Rattle.std.specs.Option.{option_and_then}
use Rattle.mrt_graph.specs.declared.cert.Row.{Row}
use Rattle.mrt_graph.specs.Column.{is_none_at, rows_of_column}
use Rattle.mrt_rows.specs.RowsTo.{ColumnsHeld, rows_in}
use Rattle.mrt_rows.proofs.rooted.RowsToRowsOf.row_for.Goals as goal

-- the row of s for t, where it stands
record Stands (held : ColumnsHeld) (s t : ℕ) : Type 0 where
  place : ℕ
  at : slice_get held.places t ≡ Some (Some place)
  column : List (Option Row)
  there : slice_get held.columns place ≡ Some column
  row : Row
  is : slice_get column s ≡ Some (Some row)
  so : rows_in held s t ≡ Some row

from_some : (o : Option Row) → IsSome o → (row : Row) × (o ≡ Some row)
from_some (Some row) is = (row, refl)
from_some None is = let no : false ≡ true = is in absurd (cc)

if_some : (b : Bool) (o : Option Row) (row : Row) → (if b then o else None) ≡ Some row → o ≡ Some row
if_some true o row is = is
if_some false o row is = absurd (none-some row is)

stands : (held : ColumnsHeld) (s t : ℕ) → IsSome (rows_in held s t) → Stands held s t
stands held s t some =
    let it = from_some (rows_in held s t) some in
    let id_place = option_and_then (λ (o : Option ℕ). o) (slice_get held.places t) in
    option_and_then_some (λ (column : List (Option Row)). rows_of_column column s t) (option_and_then (slice_get held.columns) id_place) it.0 it.1 (λ column at_column stood.
    option_and_then_some (slice_get held.columns) id_place column at_column (λ place at_place there.
    option_and_then_some (λ (o : Option ℕ). o) (slice_get held.places t) place at_place (λ o at same.
    option_and_then_some (λ (r : Option Row). r) (slice_get column s) it.0 (if_some (is_none_at column t) _ it.0 stood) (λ r at_s as_row. record {
      place = place;
      at = at ∙ ap (λ (x : Option ℕ). Some x) same;
      column = column;
      there = there;
      row = it.0;
      is = at_s ∙ ap (λ (x : Option Row). Some x) as_row;
      so = it.1;
    }))))

pub index-requires : goal.index-requires
index-requires c =
    let it = stands _ c.args.s c.args.t (subst (λ (held : ColumnsHeld). IsSome (rows_in held c.args.s c.args.t)) (sym c.self.view_is) c.requires) in
    omega (arith, c.self.inside.places.ok.0, c.get.ensures.value, slice_get_within c.self.inside.places.items c.args.t (Some it.place) it.at)

pub unreachable-requires : goal.unreachable-requires
unreachable-requires c =
    let it = stands _ c.args.s c.args.t (subst (λ (held : ColumnsHeld). IsSome (rows_in held c.args.s c.args.t)) (sym c.self.view_is) c.requires) in
    c.in_default.not-Some it.place (c.index.ensures ∙ get_or_from_slice_get c.self.inside.places.items c.get.result (Some it.place) c.index.result.now
    (subst (λ (i : ℕ). slice_get c.self.inside.places.items i ≡ Some (Some it.place)) (sym c.get.ensures.value) it.at))

pub returns : goal.returns
returns c =
    let it = stands _ c.args.s c.args.t (subst (λ (held : ColumnsHeld). IsSome (rows_in held c.args.s c.args.t)) (sym c.self.view_is) c.requires) in
    let index = c.index.ensures ∙ get_or_from_slice_get c.self.inside.places.items c.get.result (Some it.place) c.index.result.now
    (subst (λ (i : ℕ). slice_get c.self.inside.places.items i ≡ Some (Some it.place)) (sym c.get.ensures.value) it.at) in
    let place = same_Some it.place c.in-Some.place (sym index ∙ c.in-Some.is) in
    let column = c.index-2.ensures ∙ get_or_from_slice_get c.self.inside.columns.items c.in-Some.place it.column c.index-2.result.now
    (subst (λ (i : ℕ). slice_get c.self.inside.columns.items i ≡ Some it.column) place it.there) in
    let row = same_Some (Some it.row) c.row.result (sym it.is ∙ subst (λ (rows : List (Option Row)). slice_get rows c.args.s ≡ Some c.row.result) column c.row.ensures.value) in
    subst (λ (held : ColumnsHeld). rows_in held c.args.s c.args.t ≡ Some c.in-Some-row.row) c.self.view_is (it.so ∙ row ∙ c.in-Some-row.is)

pub index-requires-2 : goal.index-requires-2
index-requires-2 c =
    let it = stands _ c.args.s c.args.t (subst (λ (held : ColumnsHeld). IsSome (rows_in held c.args.s c.args.t)) (sym c.self.view_is) c.requires) in
    let index = c.index.ensures ∙ get_or_from_slice_get c.self.inside.places.items c.get.result (Some it.place) c.index.result.now
    (subst (λ (i : ℕ). slice_get c.self.inside.places.items i ≡ Some (Some it.place)) (sym c.get.ensures.value) it.at) in
    let place = same_Some it.place c.in-Some.place (sym index ∙ c.in-Some.is) in
    omega (arith, c.self.inside.columns.ok.0, place, slice_get_within c.self.inside.columns.items it.place it.column it.there)

pub row-requires : goal.row-requires
row-requires c =
    let it = stands _ c.args.s c.args.t (subst (λ (held : ColumnsHeld). IsSome (rows_in held c.args.s c.args.t)) (sym c.self.view_is) c.requires) in
    let index = c.index.ensures ∙ get_or_from_slice_get c.self.inside.places.items c.get.result (Some it.place) c.index.result.now
    (subst (λ (i : ℕ). slice_get c.self.inside.places.items i ≡ Some (Some it.place)) (sym c.get.ensures.value) it.at) in
    let place = same_Some it.place c.in-Some.place (sym index ∙ c.in-Some.is) in
    let column = c.index-2.ensures ∙ get_or_from_slice_get c.self.inside.columns.items c.in-Some.place it.column c.index-2.result.now
    (subst (λ (i : ℕ). slice_get c.self.inside.columns.items i ≡ Some it.column) place it.there) in
    subst (λ (rows : List (Option Row)). c.args.s < length rows) (sym column) (slice_get_within it.column c.args.s (Some it.row) it.is)
