use Rattle.std.proofs.Common.{rules}
use Rattle.lsdb.proofs.compare.compare_ranks.Goals as goal

pub returns : goal.returns
returns c = search rules
