use Rattle.lowpoint_dfs.proofs.WholeTree.{joins_all}
use Rattle.lowpoint_dfs.proofs.search_law.links_join_ancestors.Goals as goal

pub returns : goal.returns
returns c = joins_all
