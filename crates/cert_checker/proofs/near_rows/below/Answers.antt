use Rattle.std.proofs.Common.{rules}
use Rattle.cert_checker.proofs.near_rows.below.Goals as goal

pub returns-then-is_lower_tagged : goal.returns-then-is_lower_tagged
returns-then-is_lower_tagged c = search rules

pub returns-else-is_lower_tagged : goal.returns-else-is_lower_tagged
returns-else-is_lower_tagged c = search rules
