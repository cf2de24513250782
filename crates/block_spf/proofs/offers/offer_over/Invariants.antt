use Rattle.block_spf.specs.steps.Known.{AreLanes, AreOffered, known_at}
use Rattle.block_spf.proofs.Offering.{LaneOffer, OfFirst}
use Rattle.block_spf.proofs.offers.offer_over.Given as goal

abbrev pub invariant-loop-j : goal.invariant-loop-j
invariant-loop-j l = record {
  lanes : AreLanes l.costs l.places;
  offered : AreOffered (OfFirst l.j (LaneOffer l.from_costs l.from_places l.metric l.at)) (known_at l.initial.costs l.initial.places) (known_at l.costs l.places);
}
