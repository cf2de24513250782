use Rattle.std.proofs.Common.{◌∙◌, ◌++◌, ℕ, List, refl, sym, ap, arith, append_assoc}
use Rattle.std.proofs.lemmas.Fmt.{decimal_digit}
use Rattle.text_parts.proofs.Numerals.{decimal_three, decimal_two}
use Rattle.text_parts.proofs.node_text.push_decimal.Goals as goal

pub returns-then-number-ge100-clause-value : goal.returns-then-number-ge100-clause-value
returns-then-number-ge100-clause-value g c =
    rw (c.push_pair.ensures.value, c.push.ensures, c.digit.ensures, append_assoc, decimal_three c.args.number c.if-number-ge100.true (omega (arith, c.ranges.number.fits))) refl

pub returns-then-number-ge10-clause-value : goal.returns-then-number-ge10-clause-value
returns-then-number-ge10-clause-value g c =
    c.push_pair-then-number-ge10.ensures.value
    ∙ ap (λ (digits : List ℕ). c.args.text.now ++ digits) (sym (decimal_two c.args.number c.if-number-ge10.true c.if-number-ge100.false))

pub returns-else-number-ge10-clause-value : goal.returns-else-number-ge10-clause-value
returns-else-number-ge10-clause-value g c =
    rw (c.push-else-number-ge10.ensures, c.digit-else-number-ge10.ensures, decimal_digit c.args.number c.if-number-ge10.false) refl
