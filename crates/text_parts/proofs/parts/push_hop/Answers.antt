use Rattle.std.proofs.Common.{rules}
use Rattle.text_parts.proofs.parts.push_hop.Goals as goal

pub returns-clause-err : goal.returns-clause-err
returns-clause-err c = search rules
