use Rattle.std.proofs.Common.{rules}
use Rattle.mrt_args.proofs.arguments.exit_of.Goals as goal

pub returns-in_default : goal.returns-in_default
returns-in_default c = search rules
