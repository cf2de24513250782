use Rattle.std.proofs.Common.{refl, vec_capacity, arith}
use Rattle.cert_format.proofs.Lists.{texts_more, texts_room}
use Rattle.cert_format.proofs.list.put_parts.Goals as goal

pub put-requires : goal.put-requires
put-requires g c =
    let fits = texts_room (g.P.Part.text_in c.args.version) c.args.parts.now c.loop-part.part-index c.part-item.result c.args.out.now.items c.loop-part.out.items (vec_capacity c.args.out.now)
    c.loop-part-test.true c.part-item.is c.loop-part.invariant.text (omega (arith, c.requires)) in
    omega (arith, fits, c.loop-part.invariant.capacity)

pub loop-part-preserved : goal.loop-part-preserved
loop-part-preserved g c = record {
  text = texts_more (g.P.Part.text_in c.args.version) c.args.parts.now c.loop-part.part-index c.part-item.result c.args.out.now.items c.loop-part.out.items
      (g.P.Part.text_in c.args.version c.part-item.result) c.put.new.out.items c.loop-part-test.true c.part-item.is c.loop-part.invariant.text refl c.put.ensures.text;
  capacity = omega (arith, c.loop-part.invariant.capacity, c.put.ensures.capacity);
}
