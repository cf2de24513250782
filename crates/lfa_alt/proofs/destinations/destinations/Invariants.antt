use Rattle.std.proofs.Common.{◌≡◌, ◌≤◌, ℕ, Option, Some, length, slice_get, vec_len, vec_capacity}
use Rattle.lfa_alt.specs.declared.destination.Destination.{Destination}
use Rattle.lfa_alt.specs.steps.Choosing.{IsDestinationFor}
use Rattle.lfa_alt.proofs.destinations.destinations.Given as goal

abbrev pub invariant-loop-t : goal.invariant-loop-t
invariant-loop-t l = record {
  many : vec_len l.destinations ≡ l.t;
  told : length l.destinations.items ≡ l.t;
  room : length l.primaries ≤ vec_capacity l.destinations;
  each : (t : ℕ) (entry : Option Destination) → slice_get l.destinations.items t ≡ Some entry → IsDestinationFor l.area l.fn.source t entry;
}
