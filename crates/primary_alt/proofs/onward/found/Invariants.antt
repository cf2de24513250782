use Rattle.std.proofs.Common.{◌≤◌, length, vec_capacity, vec_len}
use Rattle.primary_alt.specs.steps.Onward.{AreOnward}
use Rattle.primary_alt.proofs.onward.found.Given as goal

abbrev pub invariant-loop-number : goal.invariant-loop-number
invariant-loop-number l = record {
  are : AreOnward l.arcs l.distances l.number l.onward.items;
  room : vec_len l.onward ≤ l.number;
  capacity : length l.arcs ≤ vec_capacity l.onward;
}
