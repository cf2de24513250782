use Rattle.std.proofs.Common.{◌≡◌, ◌<◌, get_or, arith}
use Rattle.std.specs.Char.{digit_value}
use Rattle.std.proofs.lemmas.Bool.Decides.{nat_tests}
use Rattle.std.proofs.lemmas.Grind.{pow_more}
use Rattle.std.proofs.lemmas.Int.Digits.{digits_more, digits_value_more}
use Rattle.std.proofs.lemmas.Str.Parse.{digit_at}
use Rattle.text_parts.proofs.text_numbers.value_of.Goals as goal

pub returns-then-not-is_ascii_digit-clause-only : goal.returns-then-not-is_ascii_digit-clause-only
returns-then-not-is_ascii_digit-clause-only c = λ all.
    let digit = digit_at c.args.digits.now c.loop-digit.digit-index all c.loop-digit-test.true in grind (arith, nat_tests)

pub loop-digit-preserved : goal.loop-digit-preserved
loop-digit-preserved c =
    let digits = c.args.digits.now in
    let place = c.loop-digit.digit-index in
    let worth : digit_value (get_or digits place 0) ≡ c.from.result = grind (arith, nat_tests) in
    let small : digit_value (get_or digits place 0) < 10 = grind (arith, nat_tests) in
    record {
      digits = digits_more 10 digits place c.loop-digit-test.true c.loop-digit.invariant.digits small;
      value = omega (arith, digits_value_more 10 digits place c.loop-digit-test.true, c.loop-digit.invariant.value, worth);
      below = omega (arith, pow_more 10 place, c.loop-digit.invariant.below, worth, small);
    }
