use Rattle.std.proofs.Common.{◌≡◌, ◌≤◌, ◌++◌, length, drop, vec_len}
use Rattle.std.specs.Prelude.{vec_capacity}
use Rattle.mrt_island.specs.steps.Searching.{chosen}
use Rattle.mrt_island.proofs.extent.choose.Given as goal

abbrev pub invariant-loop-k : goal.invariant-loop-k
invariant-loop-k l = record {
  room : length l.bonds ≤ vec_capacity l.links;
  count : vec_len l.links ≡ l.k;
  so_far : l.links.items ++ chosen (drop l.k l.flags) l.inside (drop l.k l.bonds) ≡ chosen l.flags l.inside l.bonds;
}
