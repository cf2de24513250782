use Rattle.fabric.proofs.NotThere.{refused}
use Rattle.fabric.proofs.refusal_law.what_is_not_there_is_refused.Goals as goal

pub returns : goal.returns
returns c = refused
