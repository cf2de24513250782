use Rattle.std.proofs.Common.{ℕ}
use Rattle.link_direction.specs.Directions.{Directions}
use Rattle.block_spf.specs.HasDirections.{AreDirections}
use Rattle.block_spf.specs.steps.Known.{AreLanes, AreOffered, known_at}
use Rattle.block_spf.specs.steps.Offers.{IsFurtherOffer}
use Rattle.block_spf.proofs.Offering.{OfFirst}
use Rattle.block_spf.proofs.offers.offer_on.Given as goal

abbrev pub invariant-loop-end : goal.invariant-loop-end
invariant-loop-end l = record {
  lanes : AreLanes l.costs l.places;
  offered : (root : ℕ) (w : Directions) → AreDirections l.opening.graph.now l.opening.directed.now root w
      → AreOffered (OfFirst l.end-index (IsFurtherOffer l.opening w l.x l.from_costs l.from_places))
      (known_at l.initial.costs l.initial.places) (known_at l.costs l.places);
}
