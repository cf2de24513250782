use Rattle.std.proofs.Common.{arith}
use Rattle.order_repair.specs.steps.Blocks.{blocks_of}
use Rattle.order_repair.proofs.Listed.{one_more}
use Rattle.order_repair.proofs.block_lists.blocks_of.Goals as goal

pub loop-number-preserved : goal.loop-number-preserved
loop-number-preserved c = record {
  count = c.loop-number.invariant.count;
  named = one_more (blocks_of c.args.kind c.args.d.now) c.loop-number.number c.block_at.result c.loop-number.blocks.items c.push_reserved.new.self.items c.block_at.ensures c.loop-number.invariant.named c.push_reserved.ensures.items;
  many = omega (arith, c.push_reserved.ensures.len, c.loop-number.invariant.many);
  room = omega (arith, c.push_reserved.ensures.capacity, c.loop-number.invariant.room);
}
