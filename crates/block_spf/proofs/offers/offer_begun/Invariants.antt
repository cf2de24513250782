use Rattle.std.proofs.Common.{ℕ}
use Rattle.link_direction.specs.Directions.{Directions}
use Rattle.block_spf.specs.HasDirections.{AreDirections}
use Rattle.block_spf.specs.steps.Known.{AreLanes, AreOffered, known_at}
use Rattle.block_spf.specs.steps.Offers.{IsFirstOffer}
use Rattle.block_spf.proofs.Offering.{OfFirst}
use Rattle.block_spf.proofs.offers.offer_begun.Given as goal

abbrev pub invariant-loop-place : goal.invariant-loop-place
invariant-loop-place l = record {
  lanes : AreLanes l.costs l.places;
  offered : (root : ℕ) (w : Directions) → AreDirections l.opening.graph.now l.opening.directed.now root w
      → AreOffered (OfFirst l.place (IsFirstOffer l.opening w l.source l.width l.j))
      (known_at l.initial.costs l.initial.places) (known_at l.costs l.places);
}
