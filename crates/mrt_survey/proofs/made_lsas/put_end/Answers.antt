use Rattle.std.proofs.Common.{rules}
use Rattle.mrt_survey.proofs.made_lsas.put_end.Goals as goal

pub returns-in_default : goal.returns-in_default
returns-in_default c = search rules
