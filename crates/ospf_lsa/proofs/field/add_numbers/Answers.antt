use Rattle.std.proofs.Common.{arith}
use Rattle.ospf_lsa.proofs.Numbers.{numbers_next}
use Rattle.ospf_lsa.proofs.field.add_numbers.Goals as goal

pub loop-i-preserved : goal.loop-i-preserved
loop-i-preserved c = record {
  whole = numbers_next c.args.count c.loop-i.i c.number_32.result c.args.bytes.now c.loop-i.numbers.items
      c.push_reserved.new.self.items _
      (omega arith) c.number_32.ensures c.push_reserved.ensures.items c.loop-i.invariant.whole;
  many = omega arith;
  room = omega arith;
}
