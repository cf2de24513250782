use Rattle.link_direction.proofs.EachInOrder.{each_once}
use Rattle.link_direction.proofs.FromEarsFacts.{gadag_facts}
use Rattle.link_direction.proofs.order_law.each_node_is_in_the_order_once.Goals as goal

pub returns : goal.returns
returns c = λ g root tree gadag kept within search it order whole v v_within.
    each_once g root gadag order v (gadag_facts g root gadag kept within (record { tree = tree; search = search; is_gadag = it })) whole v_within
