use Rattle.std.proofs.Common.{◌≡◌, ℕ, length, take}
use Rattle.std.specs.Prelude.{◌↔◌}
use Rattle.mrt_graph.specs.Search.{IsMarked}
use Rattle.mrt_answer.specs.steps.Made.{IsWanted}
use Rattle.mrt_answer.proofs.packets.wanted_nodes.Given as goal

abbrev pub invariant-loop-spot : goal.invariant-loop-spot
invariant-loop-spot l = record {
  one_each : length l.wanted.items ≡ l.count;
  marked : (d : ℕ) → IsMarked l.wanted.items d ↔ IsWanted l.routes (take l.spot-index l.destinations) d;
}
