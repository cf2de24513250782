use Rattle.lowpoint_dfs.specs.steps.Finding.{LeadToFound}
use Rattle.lowpoint_dfs.proofs.finding.first_outside.Given as goal

abbrev pub invariant-loop-place : goal.invariant-loop-place
invariant-loop-place l = LeadToFound l.nodes l.ends l.from l.place
