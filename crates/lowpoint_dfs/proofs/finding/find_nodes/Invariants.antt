use Rattle.std.proofs.Common.{◌≤◌, length, vec_capacity}
use Rattle.lowpoint_dfs.specs.steps.Finding.{IsSearching, left_at}
use Rattle.lowpoint_dfs.proofs.finding.find_nodes.Given as goal

abbrev pub invariant-loop-next : goal.invariant-loop-next
invariant-loop-next l = record {
  searching : IsSearching l.g l.root l.nodes.items l.order.items l.passed.items l.here;
  room : length l.g.ids ≤ vec_capacity l.order;
}

abbrev pub decreases-loop-next : goal.decreases-loop-next
decreases-loop-next l = left_at l.nodes.items l.here
