use Rattle.std.proofs.Common.{◌≡◌, ◌≤◌, ◌++◌, length, drop, map, vec_len}
use Rattle.std.specs.Prelude.{vec_capacity}
use Rattle.mrt_island.specs.Eligible.{is_eligible}
use Rattle.mrt_island.specs.Policy.{policy_of}
use Rattle.mrt_island.proofs.eligible.eligible_pairs.Given as goal

abbrev pub invariant-loop-bond : goal.invariant-loop-bond
invariant-loop-bond l = record {
  room : length l.bonds ≤ vec_capacity l.flags;
  count : vec_len l.flags ≡ l.bond-index;
  so_far : l.flags.items ++ map (is_eligible (policy_of l.profile) l.area.ids) (drop l.bond-index l.bonds) ≡ map (is_eligible (policy_of l.profile) l.area.ids) l.bonds;
}
