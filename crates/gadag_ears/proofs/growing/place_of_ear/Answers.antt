use Rattle.std.proofs.Common.{rules}
use Rattle.gadag_ears.proofs.growing.place_of_ear.Goals as goal

pub returns-in-Child : goal.returns-in-Child
returns-in-Child c = search rules
