use Rattle.std.proofs.Common.{◌≡◌, ◌+◌, ◌++◌, drop}
use Rattle.std.specs.List.{enumerate_from, filter_map}
use Rattle.mrt_survey.specs.MadeLsas.{end_at, ends_of}
use Rattle.mrt_survey.proofs.made_lsas.ends.Given as goal

abbrev pub invariant-loop-place : goal.invariant-loop-place
invariant-loop-place l =
    l.found.items ++ filter_map (end_at l.router) (enumerate_from (1 + l.place) (drop l.place l.links)) ≡ ends_of l.links l.router
