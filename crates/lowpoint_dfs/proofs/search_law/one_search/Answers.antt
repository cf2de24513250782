use Rattle.lowpoint_dfs.proofs.OneSearch.{one_search}
use Rattle.lowpoint_dfs.proofs.SearchExists.{some_search}
use Rattle.lowpoint_dfs.proofs.search_law.one_search.Goals as goal

pub returns-clause-some : goal.returns-clause-some
returns-clause-some c = some_search

pub returns-clause-one : goal.returns-clause-one
returns-clause-one c = one_search
