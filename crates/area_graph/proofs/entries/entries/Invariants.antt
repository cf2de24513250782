use Rattle.std.proofs.Common.{◌≡◌, ◌++◌, drop}
use Rattle.area_graph.specs.steps.NumberedEntries.{entries_from}
use Rattle.area_graph.specs.Nodes.{speakers}
use Rattle.area_graph.proofs.entries.entries.Given as goal

abbrev pub invariant-loop-tail : goal.invariant-loop-tail
invariant-loop-tail l = l.found.items ++ entries_from l.ids l.tail (drop l.tail (speakers l.lsas)) ≡ entries_from l.ids 0 (speakers l.lsas)
