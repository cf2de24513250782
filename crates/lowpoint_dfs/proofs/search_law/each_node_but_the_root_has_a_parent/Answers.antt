use Rattle.lowpoint_dfs.proofs.FoundInTurn.{root_first}
use Rattle.lowpoint_dfs.proofs.ParentsFirst.{has_parent}
use Rattle.lowpoint_dfs.proofs.search_law.each_node_but_the_root_has_a_parent.Goals as goal

pub returns-clause-root : goal.returns-clause-root
returns-clause-root c = λ g root tree kept within search.
    let first = root_first g root tree search.order search.searched in (first.number, first.parent)

pub returns-clause-others : goal.returns-clause-others
returns-clause-others c = λ g root tree kept within search. has_parent g root tree search.order kept within search.searched search.ended
