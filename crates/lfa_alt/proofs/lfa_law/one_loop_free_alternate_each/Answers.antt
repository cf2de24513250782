use Rattle.lfa_alt.proofs.OneLfa.{one_answer}
use Rattle.lfa_alt.proofs.lfa_law.one_loop_free_alternate_each.Goals as goal

pub returns : goal.returns
returns c = one_answer
