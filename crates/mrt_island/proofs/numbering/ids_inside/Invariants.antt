use Rattle.std.proofs.Common.{◌≡◌, ◌≤◌, ◌++◌, length, drop, vec_len}
use Rattle.std.specs.Prelude.{vec_capacity}
use Rattle.mrt_island.specs.Numbering.{flagged}
use Rattle.mrt_island.proofs.numbering.ids_inside.Given as goal

abbrev pub invariant-loop-s : goal.invariant-loop-s
invariant-loop-s l = record {
  room : length l.inside ≤ vec_capacity l.ids;
  count : vec_len l.ids ≤ l.s;
  so_far : l.ids.items ++ flagged (drop l.s l.inside) (drop l.s l.area.ids) ≡ flagged l.inside l.area.ids;
}
