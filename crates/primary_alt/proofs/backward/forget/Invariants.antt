use Rattle.std.proofs.Common.{◌≡◌, ◌<◌, ℕ, length}
use Rattle.primary_alt.specs.Distances.{HasDistance}
use Rattle.primary_alt.proofs.backward.forget.Given as goal

abbrev pub invariant-loop-v : goal.invariant-loop-v
invariant-loop-v l = record {
  one_each : length l.known.items ≡ length l.fn.known.items;
  none : (u distance : ℕ) → u < l.v → ¬ HasDistance l.known.items u distance;
}
