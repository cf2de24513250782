use Rattle.std.proofs.Common.{◌≡◌, length, drop, map}
use Rattle.mrt_survey.proofs.Marked.{MarkedSoFar}
use Rattle.mrt_survey.proofs.marks.mark_heads.Given as goal

abbrev pub invariant-loop-node : goal.invariant-loop-node
invariant-loop-node l = record {
  same_length : length l.marks.items ≡ length l.initial.marks.items;
  so_far : MarkedSoFar (map (λ node. node.head) l.nodes) (map (λ node. node.head) (drop l.node-index l.nodes)) l.initial.marks.items l.marks.items;
}
