use Rattle.std.proofs.Common.{◌<◌, length, sym, subst, arith}
use Rattle.std.proofs.lemmas.List.Elements.{All-from_recursion}
use Rattle.area_graph.specs.declared.area_types.Bond.{Bond}
use Rattle.mrt_island.proofs.Choosing.{chosen_more}
use Rattle.mrt_island.proofs.extent.choose.Goals as goal

pub loop-k-preserved : goal.loop-k-preserved
loop-k-preserved c = record {
  room = omega (arith, c.push_reserved.ensures.capacity);
  count = omega (arith, c.push_reserved.ensures.len);
  so_far = chosen_more c.args.flags.now c.args.inside.now c.args.bonds.now c.loop-k.k c.index-bonds-k.result c.is_between.result _ _ _ (omega arith) (omega arith) c.index-bonds-k.is
      c.is_between.ensures c.push_reserved.ensures.items c.loop-k.invariant.so_far;
}

pub is_between-requires : goal.is_between-requires
is_between-requires c =
    let many = length c.args.inside.now in
    let both = All-from_recursion (λ (bond : Bond). (bond.a < many) × (bond.b < many)) c.args.bonds.now c.requires.within c.loop-k.k c.index-bonds-k.result c.loop-k-test.true in
    record {
      a = subst (λ (bond : Bond). bond.a < many) (sym c.index-bonds-k.is) both.0;
      b = subst (λ (bond : Bond). bond.b < many) (sym c.index-bonds-k.is) both.1;
    }
