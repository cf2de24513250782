use Rattle.std.proofs.Common.{◌≡◌, length}
use Rattle.primary_alt.proofs.BeginningsPassed.{ArePassed}
use Rattle.primary_alt.proofs.beginnings.least_beginnings.Given as goal

abbrev pub invariant-loop-place : goal.invariant-loop-place
invariant-loop-place l = record {
  one_each : length l.begins.items ≡ length l.distances;
  passed : ArePassed l.arcs l.fn.source l.distances l.onward.items l.place l.begins.items;
}
