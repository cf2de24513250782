use Rattle.std.proofs.Common.{rules}
use Rattle.fabric_script.proofs.line.read_entry.Goals as goal

pub returns-then-eq-3 : goal.returns-then-eq-3
returns-then-eq-3 c = search rules
