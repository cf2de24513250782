use Rattle.mrt_answer.proofs.OwnPlaces.{found}
use Rattle.mrt_answer.proofs.finding.own_node.Goals as goal

pub returns : goal.returns
returns c = found _ _ c.requires _ c.node_of.ensures
