use Rattle.flood.proofs.RunsAsLists.{converged_settled_law, converged_newest_law}
use Rattle.flood.proofs.run_law.flooding_converges.Goals as goal

pub returns : goal.returns
returns c = record { settled = converged_settled_law; newest = converged_newest_law }
