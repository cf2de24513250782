use Rattle.std.proofs.Common.{◌≡◌, ◌<◌, ℕ, Option, Some, length, slice_get}
use Rattle.primary_alt.specs.declared.shortest.Primary.{Primary}
use Rattle.primary_alt.specs.Primaries.{IsPrimary}
use Rattle.primary_alt.proofs.least_walks.entries.Given as goal

abbrev pub invariant-loop-t : goal.invariant-loop-t
invariant-loop-t l = record {
  one_each : length l.entries.items ≡ length l.area.ids;
  each : (t : ℕ) (entry : Option Primary) → t < l.t → slice_get l.entries.items t ≡ Some entry → IsPrimary l.area l.fn.source t entry;
}
