use Rattle.gadag_ears.proofs.OneEarOrder.{one_ear_order}
use Rattle.gadag_ears.proofs.ears_law.one_ear_order.Goals as goal

pub returns : goal.returns
returns c = one_ear_order
