use Rattle.lowpoint_dfs.proofs.FoundInTurn.{number_at}
use Rattle.lowpoint_dfs.proofs.WholeTree.{numbers_within, numbers_differ}
use Rattle.lowpoint_dfs.proofs.search_law.numbers_are_places.Goals as goal

pub returns-clause-places : goal.returns-clause-places
returns-clause-places c = λ g root tree kept within search. number_at g root tree search.order search.searched

pub returns-clause-within : goal.returns-clause-within
returns-clause-within c = numbers_within

pub returns-clause-differ : goal.returns-clause-differ
returns-clause-differ c = numbers_differ
