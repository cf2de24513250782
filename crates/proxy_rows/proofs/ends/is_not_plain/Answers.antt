use Rattle.std.proofs.Common.{rules}
use Rattle.proxy_rows.proofs.ends.is_not_plain.Goals as goal

pub returns-then-is_of_block : goal.returns-then-is_of_block
returns-then-is_of_block c = search rules
