use Rattle.std.proofs.Common.{◌+◌, ℕ}
use Rattle.link_direction.specs.Directions.{Directions}
use Rattle.block_spf.specs.HasDirections.{AreDirections}
use Rattle.block_spf.specs.steps.Known.{AreLanes, AreOffered, OfAny, known_at}
use Rattle.block_spf.specs.steps.Offers.{IsFirstOffer}
use Rattle.block_spf.specs.steps.Opening.{AreStops}
use Rattle.block_spf.proofs.Offering.{OfFirst}
use Rattle.block_spf.proofs.fan.begin.Given as goal

abbrev pub invariant-loop-j : goal.invariant-loop-j
invariant-loop-j l = record {
  lanes : AreLanes l.costs l.places;
  begun : (root : ℕ) (w : Directions) → AreDirections l.opening.graph.now l.opening.directed.now root w
      → AreOffered (OfFirst l.j (λ k. OfAny (IsFirstOffer l.opening w (l.opening.first + k) l.width k)))
      (known_at l.initial.costs l.initial.places) (known_at l.costs l.places);
  stops : AreStops l.opening l.j l.stops;
}
