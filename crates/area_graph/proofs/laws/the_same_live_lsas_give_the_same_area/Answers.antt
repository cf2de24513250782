use Rattle.area_graph.proofs.EveryOrder.{live_instances, same_live}
use Rattle.area_graph.proofs.laws.the_same_live_lsas_give_the_same_area.Goals as goal

pub returns : goal.returns
returns c = record { same = same_live; instances = live_instances }
