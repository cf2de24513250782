use Rattle.std.proofs.Common.{◌<◌, ℕ, length, refl, sym, subst, arith}
use Rattle.std.specs.BinaryHeap.{heap_items}
use Rattle.std.specs.Option.{is_some}
use Rattle.std.proofs.lemmas.List.Sums.{count_by-le-length}
use Rattle.std.proofs.lemmas.Option.{slice_get_read}
use Rattle.mrt_graph.proofs.ListPlaces.{contains_at}
use Rattle.primary_alt.proofs.RowRelaxed.{relaxed_more, relaxed_none}
use Rattle.primary_alt.proofs.backward.relax.Goals as goal

pub loop-arc-init : goal.loop-arc-init
loop-arc-init c = record {
  relaxed = relaxed_none c.args.into.now.arcs.items c.args.row.now c.args.u c.args.distance c.args.known.now.items (heap_items c.args.waiting.now) c.requires.small;
  fewer = omega arith;
}

pub overflow_add-distance : goal.overflow_add-distance
overflow_add-distance c = omega (arith, c.requires.near, c.requires.few, count_by-le-length is_some c.args.known.now.items)

pub offer_to-requires-clause-node : goal.offer_to-requires-clause-node
offer_to-requires-clause-node c =
    let at = slice_get_read c.args.row.now (length c.args.row.now) c.loop-arc.arc-index c.arc-item.result refl c.loop-arc-test.true c.arc-item.is in
    let within = c.requires.tails c.arc-item.result (contains_at c.args.row.now c.loop-arc.arc-index c.arc-item.result at) in
    subst (λ (n : ℕ). c.arc-item.result.tail < n) (sym c.loop-arc.invariant.relaxed.one_each) within

pub loop-arc-preserved : goal.loop-arc-preserved
loop-arc-preserved c =
    let at = slice_get_read c.args.row.now (length c.args.row.now) c.loop-arc.arc-index c.arc-item.result refl c.loop-arc-test.true c.arc-item.is in
    let within = c.requires.tails c.arc-item.result (contains_at c.args.row.now c.loop-arc.arc-index c.arc-item.result at) in
    record {
      relaxed = relaxed_more c.args.into.now.arcs.items c.args.row.now c.args.u c.loop-arc.arc-index c.args.distance c.arc-item.result c.args.known.now.items c.loop-arc.known.items c.offer_to.new.known.items
          (heap_items c.args.waiting.now) (heap_items c.loop-arc.waiting) (heap_items c.offer_to.new.waiting)
          at within (omega arith) c.requires.near c.loop-arc.invariant.relaxed c.in_ok-offer_to.ensures.offered;
      fewer = omega (arith, c.loop-arc.invariant.fewer, c.in_ok-offer_to.ensures.fewer);
    }
