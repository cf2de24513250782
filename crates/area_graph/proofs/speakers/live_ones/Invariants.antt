use Rattle.std.proofs.Common.{◌≡◌, ◌≤◌, take, length, vec_len}
use Rattle.std.specs.Prelude.{vec_capacity}
use Rattle.std.specs.List.{AllZip}
use Rattle.area_graph.specs.Nodes.{live}
use Rattle.area_graph.specs.steps.Speaking.{IsSpeakerOf}
use Rattle.area_graph.proofs.speakers.live_ones.Given as goal

abbrev pub invariant-loop-at : goal.invariant-loop-at
invariant-loop-at l = record {
  speak : AllZip (IsSpeakerOf l.lsas) l.found.items (live (take l.at l.lsas));
  many : vec_len l.found ≤ l.at;
  room : vec_capacity l.found ≡ length l.lsas;
}
