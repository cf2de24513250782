use Rattle.std.proofs.Common.{◌≡◌, ◌+◌, ◌*◌, ◌≤◌, ◌<◌, ◌^◌, ◌++◌, map}
use Rattle.std.specs.List.{range_with_len}
use Rattle.std.specs.Vec.{vec_capacity, vec_len}
use Rattle.mrt_survey.specs.Draws.{with_draws}
use Rattle.mrt_survey.specs.MadeLinks.{drawn_from, chord_link}
use Rattle.mrt_survey.proofs.made_links.push_chords.Given as goal

abbrev pub invariant-loop-i : goal.invariant-loop-i
invariant-loop-i l = record {
  added : l.links.items ≡ l.initial.links.items ++ map (chord_link l.ring (drawn_from l.initial.draws.x 0)) (range_with_len 0 l.i);
  drawn : l.draws.x ≡ with_draws (3 * l.i) l.initial.draws.x;
  few : l.draws.x < 2 ^ 32;
  longer : vec_len l.links ≡ vec_len l.initial.links + l.i;
  same_room : vec_capacity l.initial.links ≤ vec_capacity l.links;
}
