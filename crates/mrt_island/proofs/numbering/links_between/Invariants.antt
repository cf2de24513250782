use Rattle.std.proofs.Common.{◌≡◌, ◌≤◌, ◌++◌, length, drop, map, vec_len}
use Rattle.std.specs.Prelude.{vec_capacity}
use Rattle.mrt_island.specs.Numbering.{flagged, link_by}
use Rattle.mrt_island.proofs.numbering.links_between.Given as goal

abbrev pub invariant-loop-k : goal.invariant-loop-k
invariant-loop-k l = record {
  room : length l.bonds ≤ vec_capacity l.links;
  count : vec_len l.links ≤ l.k;
  so_far : l.links.items ++ map (link_by l.inside) (flagged (drop l.k l.flags) (drop l.k l.bonds)) ≡ map (link_by l.inside) (flagged l.flags l.bonds);
}
