use Rattle.std.proofs.Common.{◌≡◌, ◌∙◌, ◌<◌, ◌+◌, ◌++◌, ℕ, Bool, List, [], ◌∷◌, Option, Some, None, length, slice_index_or, false, rules, inl, inr, refl, sym, ap, subst, arith, length-append}
use Rattle.std.proofs.lemmas.Bool.{both_ways, cases_eq, cases_lt}
use Rattle.std.proofs.lemmas.List.{get_or_past}
use Rattle.mrt_graph.specs.declared.cert.CertFile.{CertFile}
use Rattle.mrt_graph.specs.declared.cert.Row.{Row}
use Rattle.mrt_graph.specs.Search.{IsMarked}
use Rattle.mrt_rows.specs.CertOf.{IsCertOf}
use Rattle.mrt_rows.specs.ColumnOf.{HasRowsFor}
use Rattle.mrt_rows.proofs.RowsHeld.{IsHeld, held_last, held_on, held_on_place, rows_held}
use Rattle.mrt_rows.proofs.rooted.RootedColumns.rows_to.Goals.{then-wanted-n+in_ok-column+in_ok-push, else-wanted-n}
use Rattle.mrt_rows.proofs.rooted.RootedColumns.rows_to.Goals as goal

mark_within : (marks : List Bool) (t : ℕ) → IsMarked marks t → t < length marks
mark_within marks t marked = elim (cases_lt t (length marks)) [
  | inl within ↦ within
  | inr past ↦ absurd (both_ways (slice_index_or marks t false) (get_or_past marks t false past) marked)
]

-- one more place, with or without a column
marked_more : (file : CertFile) (marks : List Bool) (places : List (Option ℕ)) (columns : List (List (Option Row))) (n : ℕ) (column : List (Option Row))
    → length places ≡ n → HasRowsFor file.cert n column
    → ((t : ℕ) → t < n → IsMarked marks t → IsHeld file places columns t)
    → (t : ℕ) → t < n + 1 → IsMarked marks t → IsHeld file (places ++ Some (length columns) ∷ []) (columns ++ column ∷ []) t
marked_more file marks places columns n column many has before t below marked = elim (cases_eq t n) [
  | inl same ↦
      subst (λ (k : ℕ). IsHeld file (places ++ Some (length columns) ∷ []) (columns ++ column ∷ []) k) (sym same)
      (held_last file places columns n column many has)
  | inr other ↦ held_on file places columns t (Some (length columns)) (column ∷ []) (before t (omega (arith, below, other)) marked)
]

unmarked_more : (file : CertFile) (marks : List Bool) (places : List (Option ℕ)) (columns : List (List (Option Row))) (n : ℕ)
    → slice_index_or marks n false ≡ false
    → ((t : ℕ) → t < n → IsMarked marks t → IsHeld file places columns t)
    → (t : ℕ) → t < n + 1 → IsMarked marks t → IsHeld file (places ++ None ∷ []) columns t
unmarked_more file marks places columns n bare before t below marked = elim (cases_eq t n) [
  | inl same ↦ absurd (both_ways (slice_index_or marks n false) bare (subst (λ (k : ℕ). IsMarked marks k) same marked))
  | inr other ↦ held_on_place file places columns t None (before t (omega (arith, below, other)) marked)
]

pub loop-n-init : goal.loop-n-init
loop-n-init c = record {
  root = refl;
  made = c.requires.made;
  count = c.node_count-count.ensures.count;
  many = ap (λ (xs : List (Option ℕ)). length xs) c.in_ok-places.ensures.items;
  few = search rules;
  room = omega (arith, c.in_ok-places.ensures.capacity);
  held = λ file is t below marked. absurd (omega (arith, below));
}

pub push_reserved-requires : goal.push_reserved-requires
push_reserved-requires c = omega (arith, c.loop-n.invariant.many, c.loop-n-test.true, c.loop-n.invariant.room)

pub push_reserved-requires-else-wanted-n : goal.push_reserved-requires-else-wanted-n
push_reserved-requires-else-wanted-n c = omega (arith, c.loop-n.invariant.many, c.loop-n-test.true, c.loop-n.invariant.room)

pub column-requires : goal.column-requires
column-requires c = (c.new.result, c.aim_among.ensures.aimed)

pub loop-n-preserved : goal.loop-n-preserved
loop-n-preserved c = elim c.if-wanted-n.branch [
  | then-wanted-n+in_ok-column+in_ok-push w ↦ rw (w.self-is, w.places-is, w.columns-is, w.push_reserved.ensures.items, w.in_ok-push.ensures.items) (record {
    root = w.aim_among.ensures.root ∙ c.loop-n.invariant.root;
    made = w.aim_among.ensures.aimed.made;
    count = c.loop-n.invariant.count;
    many = omega (arith, length-append {A = Option ℕ}, c.loop-n.invariant.many);
    few = omega (arith, length-append {A = List (Option Row)}, c.loop-n.invariant.few);
    room = omega (arith, c.loop-n.invariant.room, w.push_reserved.ensures.capacity);
    held = λ file is t below marked.
        let from = subst (λ (k : ℕ). IsCertOf c.args.g.now k file) (sym (w.aim_among.ensures.root ∙ c.loop-n.invariant.root)) is in
        let has : HasRowsFor file.cert c.loop-n.n w.in_ok-column.column =
        subst (λ (xs : List (Option Row)). HasRowsFor file.cert c.loop-n.n xs) (sym w.in_ok-column.ensures)
        (subst (λ (k : ℕ). HasRowsFor file.cert k w.column.result) w.new.ensures
        (w.column.ensures.rows _ file w.aim_among.ensures.aimed from)) in
        subst (λ (k : ℕ). IsHeld file (c.loop-n.places.items ++ Some k ∷ []) (c.loop-n.columns.items ++ w.in_ok-column.column ∷ []) t) (sym (w.len.ensures ∙ c.loop-n.columns.ok.0))
        (marked_more file c.args.wanted.now c.loop-n.places.items c.loop-n.columns.items c.loop-n.n w.in_ok-column.column c.loop-n.invariant.many has
        (c.loop-n.invariant.held file is) t below marked);
  })
  | else-wanted-n w ↦ rw (w.self-is, w.places-is, w.columns-is, w.push_reserved-else-wanted-n.ensures.items) (record {
    root = c.loop-n.invariant.root;
    made = c.loop-n.invariant.made;
    count = c.loop-n.invariant.count;
    many = omega (arith, length-append {A = Option ℕ}, c.loop-n.invariant.many);
    few = omega (arith, c.loop-n.invariant.few);
    room = omega (arith, c.loop-n.invariant.room, w.push_reserved-else-wanted-n.ensures.capacity);
    held = λ file is t below marked.
        unmarked_more file c.args.wanted.now c.loop-n.places.items c.loop-n.columns.items c.loop-n.n w.if-wanted-n.false
        (c.loop-n.invariant.held file is) t below marked;
  })
]

pub returns-clause-rows : goal.returns-clause-rows
returns-clause-rows c = λ file is t marked s.
    rows_held file c.loop-n.places.items c.loop-n.columns.items t
    (c.loop-n.invariant.held file is t
    (omega (arith, mark_within c.args.wanted.now t marked, c.requires.one_each, c.loop-n.invariant.count, c.loop-n-test.false)) marked) s
