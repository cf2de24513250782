use Rattle.std.proofs.Common.{◌≡◌, ◌≢◌, ◌∙◌, ℕ, length, refl, sym, subst, arith}
use Rattle.primary_alt.proofs.ColorsUse.{agree, differ}
use Rattle.text_parts.specs.steps.Adds.{Adds}
use Rattle.mrt_report.specs.steps.AddsLines.{AddsLines}
use Rattle.mrt_report.specs.ByColumn.{IsLineByColumn}
use Rattle.mrt_rows.specs.CertOf.{IsCertOf}
use Rattle.mrt_report.proofs.AddingLines.{no_lines, line_added, line_passed}
use Rattle.mrt_answer.specs.Made.{with_cert}
use Rattle.mrt_answer.proofs.table.push_lines.Goals.{then-ne+in_ok-push_line, else-ne}
use Rattle.mrt_answer.proofs.table.push_lines.Goals as goal

pub loop-place-preserved : goal.loop-place-preserved
loop-place-preserved c = elim c.if-ne.branch [
  | then-ne+in_ok-push_line w ↦ rw (w.text-is, w.columns-is) (
    w.push_line.ensures.root ∙ c.loop-place.invariant.0,
    w.push_line.ensures.made,
    λ file is.
        line_added (IsLineByColumn (with_cert c.args.parts.now file.cert)) c.args.parts.now.source c.loop-place.place _ _ _
        (subst (λ (n : ℕ). n ≢ c.args.parts.now.source) c.new-to.ensures (differ _ _ (sym c.ne.ensures ∙ w.if-ne.true)))
        (c.loop-place.invariant.2 file is)
        (subst (λ (n : ℕ). Adds (IsLineByColumn (with_cert c.args.parts.now file.cert) n) c.loop-place.text.items w.push_line.new.text.items)
        c.new-to.ensures
        (w.in_ok-push_line.ensures.line file
        (subst (λ (n : ℕ). IsCertOf c.args.parts.now.island.now n file) (sym c.loop-place.invariant.0) is))),
  )
  | else-ne w ↦ rw (w.text-is, w.columns-is) (
    c.loop-place.invariant.0,
    c.loop-place.invariant.1,
    λ file is.
        line_passed (IsLineByColumn (with_cert c.args.parts.now file.cert)) c.args.parts.now.source c.loop-place.place _ _
        (subst (λ (n : ℕ). n ≡ c.args.parts.now.source) c.new-to.ensures (agree _ _ (sym c.ne.ensures ∙ w.if-ne.false)))
        (c.loop-place.invariant.2 file is),
  )
]

pub loop-place-init : goal.loop-place-init
loop-place-init c = (refl, c.requires.made, λ file is. no_lines (IsLineByColumn (with_cert c.args.parts.now file.cert)) c.args.parts.now.source c.args.text.now.items)

pub push_line-requires-clause-kept : goal.push_line-requires-clause-kept
push_line-requires-clause-kept c = c.requires.kept

pub push_line-requires-clause-made : goal.push_line-requires-clause-made
push_line-requires-clause-made c = c.loop-place.invariant.1

pub push_line-requires-clause-target : goal.push_line-requires-clause-target
push_line-requires-clause-target c = omega (arith, c.new-to.ensures, c.loop-place-test.true, c.node_count-place-end.ensures.count)

pub push_line-requires-clause-different : goal.push_line-requires-clause-different
push_line-requires-clause-different c = λ same. differ _ _ (sym c.ne.ensures ∙ c.if-ne.true) (sym same)

pub returns : goal.returns
returns c = λ file is.
    let all : c.loop-place.place ≡ length c.args.parts.now.island.now.ids =
    omega (arith, c.loop-place-test.false, c.loop-place.auto.place-end, c.node_count-place-end.ensures.count) in
    subst
    (λ (n : ℕ).
    AddsLines (IsLineByColumn (with_cert c.args.parts.now file.cert)) c.args.parts.now.source n c.args.text.now.items c.loop-place.text.items) all
    (c.loop-place.invariant.2 file is)
