use Rattle.std.proofs.Common.{◌≡◌, ◌+◌, ◌*◌, ◌≤◌, ◌<◌, ◌^◌, ◌++◌, map}
use Rattle.std.specs.List.{range_with_len}
use Rattle.std.specs.Vec.{vec_capacity, vec_len}
use Rattle.mrt_survey.specs.Draws.{with_draws}
use Rattle.mrt_survey.specs.MadeLinks.{drawn_from, spur_link}
use Rattle.mrt_survey.proofs.made_links.push_spurs.Given as goal

abbrev pub invariant-loop-j : goal.invariant-loop-j
invariant-loop-j l = record {
  added : l.links.items ≡ l.initial.links.items ++ map (spur_link l.number l.ring (drawn_from l.initial.draws.x 0)) (range_with_len 0 l.j);
  drawn : l.draws.x ≡ with_draws (2 * l.j) l.initial.draws.x;
  few : l.draws.x < 2 ^ 32;
  longer : vec_len l.links ≡ vec_len l.initial.links + l.j;
  same_room : vec_capacity l.initial.links ≤ vec_capacity l.links;
}
