use Rattle.std.proofs.Common.{◌≡◌, ◌<◌, ◌+◌, ◌-◌, [], length}
use Rattle.mrt_graph.specs.Certificate.{certificate_of}
use Rattle.mrt_graph.specs.steps.FoldedRows.{way_of, waypoint}
use Rattle.mrt_graph.proofs.unfolded.waypoint.Given as goal

abbrev pub invariant-loop : goal.invariant-loop
invariant-loop l = record {
  within : l.by < length l.nodes;
  on : waypoint (certificate_of l.nodes [] []) l.s (length l.nodes + 1 - l.counter) l.by ≡ way_of (certificate_of l.nodes [] []) l.s l.fn.t;
}
