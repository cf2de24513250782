use Rattle.std.proofs.Common.{◌<◌, ℕ, slice_index_or}
use Rattle.mrt_graph.specs.declared.link.LinkIn.{LinkIn}
use Rattle.mrt_graph.specs.steps.EndRows.{IsWithin}
use Rattle.graph_tests.proofs.hand_graphs.are_within.Given as goal

abbrev pub invariant-loop-link : goal.invariant-loop-link
invariant-loop-link l = record {
  within : (k : ℕ) (d : LinkIn) → k < l.link-index → IsWithin l.count (slice_index_or l.links k d);
  routers : (k : ℕ) (d : LinkIn) → k < l.link-index → (slice_index_or l.links k d).a < l.routers;
}
