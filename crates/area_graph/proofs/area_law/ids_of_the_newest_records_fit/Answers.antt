use Rattle.area_graph.proofs.IdsFit.{ids_fit}
use Rattle.area_graph.proofs.area_law.ids_of_the_newest_records_fit.Goals as goal

pub returns : goal.returns
returns c = ids_fit
