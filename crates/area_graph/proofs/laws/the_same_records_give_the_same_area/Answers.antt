use Rattle.area_graph.proofs.EveryOrder.{same_records, same_in_every_order}
use Rattle.area_graph.proofs.laws.the_same_records_give_the_same_area.Goals as goal

pub returns : goal.returns
returns c = record { same = same_records; reordered = same_in_every_order }
