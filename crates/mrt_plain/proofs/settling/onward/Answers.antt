use Rattle.std.proofs.Common.{rules}
use Rattle.mrt_plain.proofs.settling.onward.Goals as goal

pub returns-else-avoids : goal.returns-else-avoids
returns-else-avoids c = search rules
