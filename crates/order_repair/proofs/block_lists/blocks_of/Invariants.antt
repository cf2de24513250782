use Rattle.std.proofs.Common.{◌≡◌, ◌≤◌, take, vec_capacity, vec_len}
use Rattle.order_repair.specs.steps.Blocks.{blocks_of, count_of}
use Rattle.order_repair.proofs.block_lists.blocks_of.Given as goal

abbrev pub invariant-loop-number : goal.invariant-loop-number
invariant-loop-number l = record {
  count : l.count ≡ count_of l.kind l.g;
  named : l.blocks.items ≡ take l.number (blocks_of l.kind l.d);
  many : vec_len l.blocks ≡ l.number;
  room : l.count ≤ vec_capacity l.blocks;
}
