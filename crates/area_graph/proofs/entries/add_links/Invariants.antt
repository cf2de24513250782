use Rattle.std.proofs.Common.{◌≡◌, ◌≤◌, ◌+◌, ◌++◌, drop, length, vec_len}
use Rattle.std.specs.Prelude.{vec_capacity}
use Rattle.area_graph.specs.Entries.{entries_of_links}
use Rattle.area_graph.specs.steps.NumberedEntries.{by_number}
use Rattle.area_graph.proofs.entries.add_links.Given as goal

abbrev pub invariant-loop-place : goal.invariant-loop-place
invariant-loop-place l = record {
  whole : l.found.items ++ by_number l.ids l.tail (entries_of_links l.own l.place (drop l.place l.links))
      ≡ l.fn.found.items ++ by_number l.ids l.tail (entries_of_links l.own 0 l.links);
  room : vec_len l.found + length l.links ≤ vec_capacity l.found + l.place;
}
