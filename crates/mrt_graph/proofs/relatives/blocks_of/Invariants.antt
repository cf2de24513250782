use Rattle.std.proofs.Common.{◌≡◌, ◌≤◌, length, map, take, vec_capacity}
use Rattle.mrt_graph.proofs.relatives.blocks_of.Given as goal

abbrev pub invariant-loop-node : goal.invariant-loop-node
invariant-loop-node l = record {
  room : length l.nodes ≤ vec_capacity l.blocks;
  blocks : l.blocks.items ≡ map (λ node. node.block) (take l.node-index l.nodes);
}
