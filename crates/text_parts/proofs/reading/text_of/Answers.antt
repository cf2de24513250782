use Rattle.std.proofs.Common.{arith, refl}
use Rattle.std.proofs.lemmas.Result.{err_from_is_err_and}
use Rattle.text_parts.specs.TextLines.{text_lines}
use Rattle.text_parts.proofs.LinesTaken.{all_taken, fault_told, few_lines, none_taken, one_left, one_more_taken}
use Rattle.text_parts.proofs.reading.text_of.Goals as goal

pub loop-line-init : goal.loop-line-init
loop-line-init g c = rw c.requires.none (none_taken g.T.TakesLines.rule (text_lines c.args.bytes.now))

pub overflow_add-number : goal.overflow_add-number
overflow_add-number g c =
    let left = one_left g.T.TakesLines.rule (text_lines c.args.bytes.now) _ c.loop-line.number c.in-Some.line.now _
    (rw c.in-Some.ensures at c.loop-line.invariant) in
    omega (arith, left, few_lines c.args.bytes.now)

pub overflow_add-number-2 : goal.overflow_add-number-2
overflow_add-number-2 g c = omega (arith, c.loop-line.invariant.within, few_lines c.args.bytes.now, c.requires.few)

pub loop-line-preserved : goal.loop-line-preserved
loop-line-preserved g c =
    one_more_taken g.T.TakesLines.rule (text_lines c.args.bytes.now) _ c.loop-line.number c.in-Some.line.now _ _
    (rw c.in-Some.ensures at c.loop-line.invariant) c.in_ok-take_line.ensures

pub returns-in_err-take_line : goal.returns-in_err-take_line
returns-in_err-take_line g c =
    let p = err_from_is_err_and c.from_residual.result c.from_residual.ensures.1 in
    rw (p.1, p.2) (fault_told g.T.TakesLines.rule (text_lines c.args.bytes.now) _ c.loop-line.number c.in-Some.line.now _ _
    c.in_err-take_line.field-0.0 (rw c.in-Some.ensures at c.loop-line.invariant) c.in_err-take_line.ensures)

pub returns : goal.returns
returns g c =
    rw c.end_of.ensures (all_taken g.T.TakesLines.rule (text_lines c.args.bytes.now) c.loop-line.number c.loop-line.taken _
    (rw c.in_default.ensures at c.loop-line.invariant) refl)
