use Rattle.std.proofs.Common.{◌≡◌, ◌<◌, ◌+◌, ℕ, false, slice_index_or}
use Rattle.std.specs.Ordering.{is_lt}
use Rattle.mrt_graph.specs.declared.link.LinkIn.{LinkIn}
use Rattle.mrt_graph.specs.EndsOfLinks.{pair_of}
use Rattle.mrt_graph.specs.NewGraph.{pair_cmp}
use Rattle.graph_tests.proofs.hand_graphs.are_ascending.Given as goal

abbrev pub invariant-loop-i : goal.invariant-loop-i
invariant-loop-i l = (k : ℕ) (d : LinkIn) → k + 1 < l.i → is_lt (pair_cmp (pair_of (slice_index_or l.links (k + 1) d)) (pair_of (slice_index_or l.links k d))) ≡ false
