use Rattle.mrt_survey.proofs.HeadsTwoSeen.{AreSeen}
use Rattle.mrt_survey.proofs.counts.heads_two_blocks.Given as goal

abbrev pub invariant-loop-place : goal.invariant-loop-place
invariant-loop-place l = AreSeen l.c l.x l.place l.first
