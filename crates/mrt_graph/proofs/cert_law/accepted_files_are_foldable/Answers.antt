use Rattle.mrt_graph.proofs.cert_law.accepted_files_are_foldable.Goals as goal
use Rattle.mrt_graph.proofs.Folding.{accepted_folds}

pub returns : goal.returns
returns c = accepted_folds
