use Rattle.std.proofs.Common.{◌≡◌, length, drop, map}
use Rattle.mrt_survey.proofs.Marked.{MarkedSoFar}
use Rattle.mrt_survey.proofs.marks.mark_blocks.Given as goal

abbrev pub invariant-loop-link : goal.invariant-loop-link
invariant-loop-link l = record {
  same_length : length l.marks.items ≡ length l.initial.marks.items;
  so_far : MarkedSoFar (map (λ link. link.block) l.links) (map (λ link. link.block) (drop l.link-index l.links)) l.initial.marks.items l.marks.items;
}
