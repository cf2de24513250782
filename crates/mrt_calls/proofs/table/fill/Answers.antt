use Rattle.std.proofs.Common.{◌≡◌, ◌≢◌, ◌∙◌, ℕ, length, refl, sym, subst, arith}
use Rattle.primary_alt.proofs.ColorsUse.{agree, differ}
use Rattle.mrt_report.specs.ByColumn.{IsRowByColumn}
use Rattle.mrt_rows.specs.CertOf.{IsCertOf}
use Rattle.mrt_answer.specs.Made.{with_cert}
use Rattle.mrt_calls.specs.steps.Filling.{IsFilled}
use Rattle.mrt_calls.proofs.Filling.{none_filled, row_filled, row_passed}
use Rattle.mrt_calls.proofs.table.fill.Goals.{then-ne, else-ne}
use Rattle.mrt_calls.proofs.table.fill.Goals as goal

pub loop-place-init : goal.loop-place-init
loop-place-init c = (
  refl,
  c.requires.made,
  refl,
  omega arith,
  λ file is. none_filled (IsRowByColumn (with_cert c.args.parts.now file.cert)) c.args.parts.now.source c.args.rows.now,
)

pub loop-place-preserved : goal.loop-place-preserved
loop-place-preserved c = elim c.if-ne.branch [
  | then-ne w ↦ rw (w.rows-is, w.columns-is, w.count-is) (
    w.row_by_column-row.ensures.root ∙ c.loop-place.invariant.0,
    w.row_by_column-row.ensures.made,
    w.put_at.ensures.room ∙ c.loop-place.invariant.2,
    omega (arith, c.loop-place.invariant.3),
    λ file is.
        row_filled (IsRowByColumn (with_cert c.args.parts.now file.cert)) c.args.parts.now.source c.loop-place.place c.loop-place.count _ _ w.row_by_column-row.result
        (subst (λ (n : ℕ). n ≢ c.args.parts.now.source) c.new-to.ensures (differ _ _ (sym c.ne.ensures ∙ w.if-ne.true)))
        w.put_at.ensures.room (rw (← w.row_in.ensures) w.put_at.ensures.put) (c.loop-place.invariant.4 file is)
        (subst (λ (n : ℕ). IsRowByColumn (with_cert c.args.parts.now file.cert) n w.row_by_column-row.result) c.new-to.ensures
        (w.row_by_column-row.ensures.row file
        (subst (λ (n : ℕ). IsCertOf c.args.parts.now.island.now n file) (sym c.loop-place.invariant.0) is))),
  )
  | else-ne w ↦ rw (w.rows-is, w.columns-is, w.count-is) (
    c.loop-place.invariant.0,
    c.loop-place.invariant.1,
    c.loop-place.invariant.2,
    omega (arith, c.loop-place.invariant.3),
    λ file is.
        row_passed (IsRowByColumn (with_cert c.args.parts.now file.cert)) c.args.parts.now.source c.loop-place.place c.loop-place.count _
        (subst (λ (n : ℕ). n ≡ c.args.parts.now.source) c.new-to.ensures (agree _ _ (sym c.ne.ensures ∙ w.if-ne.false)))
        (c.loop-place.invariant.4 file is),
  )
]

pub row_by_column-row-requires-clause-target : goal.row_by_column-row-requires-clause-target
row_by_column-row-requires-clause-target c = omega (arith, c.new-to.ensures, c.loop-place-test.true, c.node_count-place-end.ensures.count)

pub row_by_column-row-requires-clause-different : goal.row_by_column-row-requires-clause-different
row_by_column-row-requires-clause-different c = λ same. differ _ _ (sym c.ne.ensures ∙ c.if-ne.true) (sym same)

pub row_by_column-row-requires-clause-made : goal.row_by_column-row-requires-clause-made
row_by_column-row-requires-clause-made c = c.loop-place.invariant.1

pub returns-clause-filled : goal.returns-clause-filled
returns-clause-filled c = λ file is.
    let all : c.loop-place.place ≡ length c.args.parts.now.island.now.ids =
    omega (arith, c.loop-place-test.false, c.loop-place.auto.place-end, c.node_count-place-end.ensures.count) in
    subst (λ (n : ℕ). IsFilled (IsRowByColumn (with_cert c.args.parts.now file.cert)) c.args.parts.now.source n c.loop-place.rows c.loop-place.count) all
    (c.loop-place.invariant.4 file is)
