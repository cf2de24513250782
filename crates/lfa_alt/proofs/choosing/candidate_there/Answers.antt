use Rattle.lfa_alt.proofs.NetworkPaths.{offer_there}
use Rattle.lfa_alt.proofs.choosing.candidate_there.Goals as goal

pub returns-in-Some : goal.returns-in-Some
returns-in-Some c = λ area source kept to is choice.
    rw (c.offer.ensures, c.get-t.ensures.value, c.in-Some.is) (offer_there area kept source c.args.path.now to c.in-Some.destination (rw c.in-Some.is at is) choice)
