use Rattle.mrt_graph.proofs.graph_law.one_graph_of_its_parts.Goals as goal
use Rattle.mrt_graph.proofs.OneGraph.{graph_exists, one_graph}

pub returns : goal.returns
returns c = record { some = graph_exists; one = one_graph }
