use Rattle.std.proofs.Common.{◌≡◌, length, map}
use Rattle.mrt_graph.specs.EndsOfLinks.{pair_of}
use Rattle.graph_tests.specs.steps.Reached.{AreReached}
use Rattle.graph_tests.proofs.hand_graphs.are_connected.Given as goal

abbrev pub invariant-loop : goal.invariant-loop
invariant-loop l = record {
  count : length l.marks.items ≡ l.count;
  reached : AreReached (map pair_of l.links) l.marks.items;
}
