use Rattle.std.proofs.Common.{◌∙◌}
use Rattle.fabric_script.proofs.NamesSpelled.{failure_spelled}
use Rattle.fabric_script.proofs.names.read_failure.Goals as goal

pub returns-clause-only : goal.returns-clause-only
returns-clause-only c = λ failed small spelled. c.failure.ensures.value ∙ failure_spelled c.args.text.now failed small spelled
