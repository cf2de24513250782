use Rattle.gadag_ears.proofs.Ended.{each_once}
use Rattle.gadag_ears.proofs.FromSearch.{facts_of}
use Rattle.gadag_ears.proofs.ears_law.each_node_is_in_the_ear_order_once.Goals as goal

pub returns : goal.returns
returns c = λ g root tree order ears kept within search are.
    each_once g root tree order ears (facts_of g root tree (record { kept = kept; within = within; search = search })) are
