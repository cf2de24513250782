use Rattle.std.proofs.Common.{refl}
use Rattle.lfa_alt.proofs.Offered.{offer_told, told_at}
use Rattle.lfa_alt.proofs.choosing.candidate_for.Goals as goal

pub returns-else-eq : goal.returns-else-eq
returns-else-eq c = λ area are is choice.
    let told = told_at area.arcs c.args.path.now.next c.args.known.now are in
    rw (c.offer.ensures, c.in-Some.is) (offer_told area c.args.source c.args.t c.args.path.now c.in-Some.destination (rw c.in-Some.is at is) _ _ _
    (told c.args.t c.args.t refl c.requires.to) (told c.get.result c.args.source c.get.ensures.value c.requires.source)
    (told c.get-in-Some.result c.in-Some.destination.primary.next c.get-in-Some.ensures.value (rw c.in-Some.is at c.requires.through)) choice)
