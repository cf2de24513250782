use Rattle.std.proofs.Common.{sym, ◌∙◌}
use Rattle.std.proofs.lemmas.Bool.{true≢false}
use Rattle.text_parts.proofs.Numerals.{read_is_spelled, spelled_digits, spelled_is_read, spelled_plainly}
use Rattle.text_parts.proofs.text_numbers.number.Goals as goal

pub returns-then-not-is_plain-clause-only : goal.returns-then-not-is_plain-clause-only
returns-then-not-is_plain-clause-only c = λ number small is.
    absurd (true≢false (sym (c.is_plain.ensures.1 (spelled_plainly c.args.text.now number small is)) ∙ c.if-not-is_plain.true))

pub returns-in_err-number-clause-only : goal.returns-in_err-number-clause-only
returns-in_err-number-clause-only c = λ number small is. let digits = spelled_digits c.args.text.now number small is in
    absurd (true≢false (sym (c.in_err-number.ensures.only digits)))

pub returns-clause-found : goal.returns-clause-found
returns-clause-found c =
    read_is_spelled c.args.text.now c.in_ok-number.number c.try_from.result _ (c.is_plain.ensures.0 c.if-not-is_plain.false)
    c.in_ok-number.ensures.found.0 c.in_ok-number.ensures.found.1 c.try_from.ensures c.ok.ensures.value

pub returns-clause-only : goal.returns-clause-only
returns-clause-only c = λ number small is.
    spelled_is_read c.args.text.now number c.in_ok-number.number c.try_from.result _ small is c.in_ok-number.ensures.found.1 c.try_from.ensures c.ok.ensures.value
