use Rattle.area_graph.proofs.NewestArea.{newest_area}
use Rattle.area_graph.proofs.area_law.the_newest_records_give_an_area.Goals as goal

pub returns : goal.returns
returns c = newest_area
