use Rattle.fabric.proofs.CourseChains.{one_change}
use Rattle.fabric.proofs.packet_law.one_change_of_mode.Goals as goal

pub returns : goal.returns
returns c = one_change
