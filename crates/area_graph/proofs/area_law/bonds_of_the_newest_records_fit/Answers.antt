use Rattle.area_graph.proofs.InRange.{bonds_fit}
use Rattle.area_graph.proofs.area_law.bonds_of_the_newest_records_fit.Goals as goal

pub returns : goal.returns
returns c = bonds_fit
