use Rattle.std.proofs.Common.{◌==◌, List, ℕ, map}
use Rattle.std.specs.Int.{from_be_bytes, w32}
use Rattle.std.specs.List.{slice_split}
use Rattle.std.specs.Str.Parse.{digits_value}
use Rattle.text_parts.specs.Spelling.{address_in, address_text}
use Rattle.text_parts.proofs.Numerals.{address_counts, value_is}
use Rattle.text_parts.proofs.text_numbers.read_address.Goals as goal

pub returns-clause-value : goal.returns-clause-value
unfolding address_in
returns-clause-value c =
    value_is address_text (λ (text : List ℕ). from_be_bytes w32 (map (digits_value 10) (slice_split (λ byte. byte == 46) text))) c.args.text.now c.address.result address_counts
    c.address.ensures.found c.address.ensures.only
