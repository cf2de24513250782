use Rattle.std.proofs.Common.{decimal}
use Rattle.std.specs.Str.Parse.{digits_value}
use Rattle.text_parts.specs.Spelling.{number_in}
use Rattle.text_parts.proofs.Numerals.{digits_count, value_is}
use Rattle.text_parts.proofs.text_numbers.read_number.Goals as goal

pub returns-clause-value : goal.returns-clause-value
unfolding number_in
returns-clause-value c = value_is decimal (digits_value 10) c.args.text.now c.number.result digits_count c.number.ensures.found c.number.ensures.only
