use Rattle.std.proofs.Common.{◌≡◌, length, map}
use Rattle.mrt_graph.specs.EndsOfLinks.{pair_of}
use Rattle.graph_tests.specs.steps.Reached.{AreReached}
use Rattle.graph_tests.proofs.hand_graphs.join_all.Given as goal

abbrev pub invariant-loop-link : goal.invariant-loop-link
invariant-loop-link l = record {
  count : length l.marks.items ≡ length l.initial.marks.items;
  reached : AreReached (map pair_of l.links) l.initial.marks.items → AreReached (map pair_of l.links) l.marks.items;
}
