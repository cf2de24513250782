use Rattle.fabric.proofs.OwnRuns.{same_answers}
use Rattle.fabric.proofs.order_law.own_events_decide_the_answers.Goals as goal

pub returns : goal.returns
returns c = same_answers
