use Rattle.std.proofs.Common.{rules}
use Rattle.text_parts.proofs.text_numbers.is_plain.Goals as goal

pub returns-in_default : goal.returns-in_default
returns-in_default c = search rules
