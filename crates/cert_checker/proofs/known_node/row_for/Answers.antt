use Rattle.cert_checker.proofs.known_node.row_for.Goals as goal

pub row-requires-clause-target : goal.row-requires-clause-target
row-requires-clause-target c = rw c.requires.source.rows c.requires.target

pub row-requires-clause-different : goal.row-requires-clause-different
row-requires-clause-different c = rw c.requires.source.rows c.requires.different

pub returns-clause-value : goal.returns-clause-value
returns-clause-value c = rw c.requires.source.rows at c.row.ensures.value

pub returns-clause-within : goal.returns-clause-within
returns-clause-within c = rw c.requires.source.rows at c.row.ensures.within
