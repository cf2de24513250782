use Rattle.std.proofs.Common.{◌≡◌, ◌<◌, ◌≤◌, ℕ, Option, Some, length, slice_get}
use Rattle.area_graph.specs.Parts.{AreaParts}
use Rattle.primary_alt.specs.DistancesFrom.{AreDistancesFrom}
use Rattle.lfa_alt.specs.declared.alternate.FreeCandidate.{FreeCandidate}
use Rattle.lfa_alt.specs.declared.destination.Destination.{Destination}
use Rattle.lfa_alt.specs.steps.Choosing.{AreDestinations, IsBetterBy, Offers}
use Rattle.lfa_alt.proofs.offering.offer.Given as goal

abbrev pub invariant-loop-t : goal.invariant-loop-t
invariant-loop-t l = record {
  one_each : length l.best.items ≡ length l.fn.best.items;
  later : (t : ℕ) → l.t ≤ t → slice_get l.best.items t ≡ slice_get l.fn.best.items t;
  done : (area : AreaParts) → AreDistancesFrom area.arcs l.path.next l.known → AreDestinations area l.fn.source l.destinations
      → (t : ℕ) (entry : Option Destination) (old new : Option FreeCandidate) → t < l.t → slice_get l.destinations t ≡ Some entry → slice_get l.fn.best.items t ≡ Some old
      → slice_get l.best.items t ≡ Some new → IsBetterBy (Offers area l.fn.source t entry l.path) old new;
}
