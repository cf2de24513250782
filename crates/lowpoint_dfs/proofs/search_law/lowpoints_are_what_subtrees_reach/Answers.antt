use Rattle.lowpoint_dfs.proofs.LowReached.{low_reached}
use Rattle.lowpoint_dfs.proofs.search_law.lowpoints_are_what_subtrees_reach.Goals as goal

pub returns : goal.returns
returns c = low_reached
