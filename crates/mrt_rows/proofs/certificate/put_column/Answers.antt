use Rattle.std.proofs.Common.{◌≡◌, ◌≢◌, ◌∙◌, ◌<◌, ◌≤◌, ◌+◌, ℕ, Some, None, set, slice_get, inl, inr, sym, ap, subst, arith}
use Rattle.std.proofs.lemmas.Bool.{cases_eq}
use Rattle.std.proofs.lemmas.List.{length-set}
use Rattle.std.proofs.lemmas.Option.{none-some, same_Some}
use Rattle.mrt_graph.specs.declared.cert.Row.{Row}
use Rattle.mrt_graph.specs.RowPlace.{place_of_row}
use Rattle.mrt_rows.specs.steps.RowsOf.{row_among}
use Rattle.mrt_rows.proofs.RowsPut.{put_elsewhere, put_there}
use Rattle.mrt_rows.proofs.certificate.put_column.Goals as goal
use Rattle.mrt_rows.proofs.certificate.put_column.Goals.{in-Some, in_default}

before : (s n : ℕ) → s < n + 1 → s ≢ n → s < n
before s n below other = omega arith

reached : (s count n : ℕ) → s < count → count ≤ n → s < n
reached s count n within all = omega arith

pub loop-n-preserved : goal.loop-n-preserved
loop-n-preserved c =
    let count = c.args.count in
    let to = c.args.to in
    let column = c.args.column.now in
    let n = c.loop-n.n in
    let node = c.new-s.result in
    let rows = c.loop-n.rows in
    let named : node ≡ n = c.new-s.ensures in
    let room = c.loop-n.invariant.room ∙ c.requires.room in
    let at : slice_get column n ≡ Some c.row.result = subst (λ (v : ℕ). slice_get column v ≡ Some c.row.result) named c.row.ensures in
    elim c.match-row.branch [
      | in-Some t ↦
          let row = t.in-Some.row in
          let within : node < count = subst (λ (v : ℕ). v < count) (sym named) c.loop-n-test.true in
          let two : node ≢ to = λ same.
          let none : slice_get column node ≡ Some None = ap (λ (v : ℕ). slice_get column v) same ∙ c.requires.none in
          none-some row (sym (same_Some c.row.result None (sym c.row.ensures ∙ none)) ∙ t.in-Some.is) in
          let put : c.match-row.rows ≡ set rows (place_of_row count node to) row =
          t.rows-is ∙ ap (λ (i : ℕ). set rows i row) t.row_place.ensures.place in
          rw put (record {
            room = length-set rows (place_of_row count node to) row ∙ c.loop-n.invariant.room;
            there = λ s other below s_within apart at_s. elim (cases_eq s n) [
              | inl same ↦
                  let here : slice_get column s ≡ Some c.row.result = ap (λ (v : ℕ). slice_get column v) same ∙ at in
                  let row_is : row ≡ other =
                  same_Some row other (sym t.in-Some.is ∙ same_Some c.row.result (Some other) (sym here ∙ at_s)) in
                  subst (λ (v : ℕ). row_among count (set rows (place_of_row count node to) row) v to ≡ Some other) (named ∙ sym same)
                  (put_there count node to row rows within c.requires.to two room ∙ ap (λ (r : Row). Some r) row_is)
              | inr differ ↦
                  put_elsewhere count node to row rows within c.requires.to two s to (inl (λ same. differ (same ∙ named)))
                  ∙ c.loop-n.invariant.there s other (before s n below differ) s_within apart at_s
            ];
            elsewhere = λ u v other.
                put_elsewhere count node to row rows within c.requires.to two u v (inr other) ∙ c.loop-n.invariant.elsewhere u v other;
          })
      | in_default t ↦ rw t.rows-is (record {
        room = c.loop-n.invariant.room;
        there = λ s other below s_within apart at_s. elim (cases_eq s n) [
          | inl same ↦
              let here : slice_get column s ≡ Some c.row.result = ap (λ (v : ℕ). slice_get column v) same ∙ at in
              absurd (t.in_default.not-Some other (same_Some c.row.result (Some other) (sym here ∙ at_s)))
          | inr differ ↦ c.loop-n.invariant.there s other (before s n below differ) s_within apart at_s
        ];
        elsewhere = c.loop-n.invariant.elsewhere;
      })
    ]

pub returns-clause-there : goal.returns-clause-there
returns-clause-there c = λ s row within two at.
    c.loop-n.invariant.there s row (reached s _ _ within c.loop-n-test.false) within two at
