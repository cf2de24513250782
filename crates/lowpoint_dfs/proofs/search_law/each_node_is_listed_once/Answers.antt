use Rattle.lowpoint_dfs.proofs.NodesListed.{each_once}
use Rattle.lowpoint_dfs.proofs.search_law.each_node_is_listed_once.Goals as goal

pub returns : goal.returns
returns c = λ g root tree kept within search. each_once g root tree search.order kept within search.searched search.ended
