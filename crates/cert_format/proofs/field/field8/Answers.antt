use Rattle.std.proofs.Common.{sym, ◌∙◌}
use Rattle.std.proofs.lemmas.Result.{err_from_is_err_and}
use Rattle.cert_format.proofs.Fields.{wide8, took_field, refused_field, short_field}
use Rattle.cert_format.proofs.field.field8.Goals as goal

pub returns-in_err-number : goal.returns-in_err-number
returns-in_err-number c =
    let p = err_from_is_err_and c.from_residual.result c.from_residual.ensures.1 in
    rw (p.1, p.2) (short_field _ c.in_err-number.field-0.0 c.args.rest c.in_err-number.ensures)

pub returns-then-not-is_within : goal.returns-then-not-is_within
returns-then-not-is_within c =
    let test = rw c.from.ensures at c.is_within.ensures in
    rw c.at-at.ensures (refused_field _ c.in_ok-number.number c.args.rest c.in_ok-number.rest wide8 c.in_ok-number.ensures.0 c.in_ok-number.ensures.1 (sym test ∙ c.if-not-is_within.true))

pub returns : goal.returns
returns c =
    let test = rw c.from.ensures at c.is_within.ensures in
    took_field _ c.in_ok-number.number c.args.rest c.in_ok-number.rest wide8 c.in_ok-number.ensures.0 c.in_ok-number.ensures.1 (sym test ∙ c.if-not-is_within.false)
