use Rattle.std.proofs.Common.{◌<◌, ℕ}
use Rattle.mrt_graph.specs.Search.{IsMarked}
use Rattle.graph_tests.proofs.hand_graphs.are_marked.Given as goal

abbrev pub invariant-loop-v : goal.invariant-loop-v
invariant-loop-v l = (v : ℕ) → v < l.v → IsMarked l.marks v
