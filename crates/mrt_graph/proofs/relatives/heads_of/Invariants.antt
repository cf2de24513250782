use Rattle.std.proofs.Common.{◌≡◌, ◌≤◌, length, map, take, vec_capacity}
use Rattle.mrt_graph.specs.Kin.{outer_head}
use Rattle.mrt_graph.proofs.relatives.heads_of.Given as goal

abbrev pub invariant-loop-node : goal.invariant-loop-node
invariant-loop-node l = record {
  room : length l.nodes ≤ vec_capacity l.heads;
  heads : l.heads.items ≡ map (outer_head l.nodes) (take l.node-index l.nodes);
}
