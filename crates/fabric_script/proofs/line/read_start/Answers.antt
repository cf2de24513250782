use Rattle.std.proofs.Common.{rules}
use Rattle.fabric_script.proofs.line.read_start.Goals as goal

pub returns : goal.returns
returns c = search rules
