use Rattle.lfa_alt.proofs.WalksRound.{not_next}
use Rattle.lfa_alt.proofs.walk_law.a_protecting_alternate_goes_round_the_next.Goals as goal

pub returns : goal.returns
returns c = λ area kept s t router lfa is holds entries are primary prim hops walk. not_next area kept s t router lfa is entries are holds primary prim hops walk
