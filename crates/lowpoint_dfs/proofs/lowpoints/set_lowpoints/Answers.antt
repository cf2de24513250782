use Rattle.std.proofs.Common.{◌-◌, ◌+◌, ◌∙◌, length, refl, sym, arith}
use Rattle.std.proofs.lemmas.Option.{slice_get_read, slice_get_within}
use Rattle.mrt_graph.proofs.ListPlaces.{place_of}
use Rattle.lowpoint_dfs.proofs.LowpointsGiven.{AreGiven, one_more}
use Rattle.lowpoint_dfs.proofs.SearchGoesOn.{ends_within}
use Rattle.lowpoint_dfs.proofs.lowpoints.set_lowpoints.Goals as goal

pub loop-place-preserved : goal.loop-place-preserved
loop-place-preserved c =
    let kept = c.loop-place.invariant in
    let place = c.loop-place.place - 1 in
    let are : AreGiven c.args.g.now c.args.nodes.now.items c.loop-place.nodes.items c.args.order.now (place + 1) =
    record { one_each = kept.one_each; alike = kept.alike; done = λ k v from at. kept.done k v (omega (arith, from, c.loop-place-test.true)) at } in
    let next =
    one_more c.args.g.now c.args.nodes.now.items c.loop-place.nodes.items c.set_lowpoint.new.nodes.items c.args.order.now place c.index-order-place.result c.ends.result.now
    c.requires.kept c.requires.numbered are
    (slice_get_read c.args.order.now (length c.args.order.now) place c.index-order-place.result refl (omega (arith, c.loop-place-test.true, c.loop-place.auto.place)) c.index-order-place.is)
    c.ends.ensures.value c.set_lowpoint.ensures in
    record { one_each = next.one_each; alike = next.alike; done = next.done }

pub returns-clause-lowpoints : goal.returns-clause-lowpoints
returns-clause-lowpoints c = λ v listed. let place = place_of c.args.order.now v listed in c.loop-place.invariant.done place.0 v (omega (arith, c.loop-place-test.false)) place.1

pub loop-place-init : goal.loop-place-init
loop-place-init c = record {
  one_each = c.requires.one_each;
  alike = record { numbers = λ v. refl; parents = λ v. refl };
  done = λ k v from at. absurd (omega (arith, from, slice_get_within c.args.order.now k v at));
}

pub ends-requires : goal.ends-requires
ends-requires c =
    c.requires.numbered.within (c.loop-place.place - 1) c.index-order-place.result
    (slice_get_read c.args.order.now (length c.args.order.now) (c.loop-place.place - 1) c.index-order-place.result refl (omega (arith, c.loop-place-test.true, c.loop-place.auto.place)) c.index-order-place.is)

pub set_lowpoint-requires-clause-node : goal.set_lowpoint-requires-clause-node
set_lowpoint-requires-clause-node c = omega (arith, slice_get_within c.args.g.now.ends c.index-order-place.result c.ends.result.now c.ends.ensures.value, c.requires.kept.a_list_each, c.loop-place.invariant.one_each)

pub set_lowpoint-requires-clause-within : goal.set_lowpoint-requires-clause-within
set_lowpoint-requires-clause-within c =
    ends_within c.args.g.now c.index-order-place.result c.loop-place.nodes.items c.ends.result.now c.loop-place.invariant.one_each c.ends.ensures.kept

pub returns-clause-one_each : goal.returns-clause-one_each
returns-clause-one_each c = c.loop-place.invariant.one_each ∙ sym c.requires.one_each

pub returns-clause-alike : goal.returns-clause-alike
returns-clause-alike c = c.loop-place.invariant.alike
