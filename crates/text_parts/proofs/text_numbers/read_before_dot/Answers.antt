use Rattle.std.proofs.Common.{arith, ◌≡◌, Some, None, Option, ℕ}
use Rattle.text_parts.proofs.Numerals.{cut_spelled, uncut_spelled}
use Rattle.text_parts.proofs.text_numbers.read_before_dot.Goals as goal

pub returns-in_err-number-clause-only : goal.returns-in_err-number-clause-only
returns-in_err-number-clause-only c = λ number rest small is.
    absurd (uncut_spelled c.args.text.now rest number (omega arith) is c.in_err-number.ensures)

pub returns-in_err-read_byte-clause-only : goal.returns-in_err-read_byte-clause-only
returns-in_err-read_byte-clause-only c = λ number rest small is.
    let cut = cut_spelled c.args.text.now c.in_ok-number.number.now c.in_ok-number.rest.now rest number (omega arith) is c.in_ok-number.ensures.1 in
    let never : ◌≡◌ {A = Option ℕ} None (Some number) = c.in_err-read_byte.ensures.only number small cut.0 in absurd (cc)

pub returns-clause-only : goal.returns-clause-only
returns-clause-only c = λ number rest small is.
    let cut = cut_spelled c.args.text.now c.in_ok-number.number.now c.in_ok-number.rest.now rest number (omega arith) is c.in_ok-number.ensures.1 in
    let same : Some c.in_ok-read_byte.field-0 ≡ Some number = c.in_ok-read_byte.ensures.only number small cut.0 in (cc, cut.1)
