use Rattle.std.proofs.Common.{◌∙◌, length, sym, ap, refl, arith}
use Rattle.std.proofs.lemmas.Option.{slice_get_read}
use Rattle.mrt_graph.proofs.ListPlaces.{contains_at}
use Rattle.area_graph.specs.Parts.{AreaParts}
use Rattle.lfa_alt.proofs.Bettering.{all_more, none_best}
use Rattle.lfa_alt.proofs.LfasFound.{throughs, paths_within}
use Rattle.lfa_alt.proofs.NetworkPaths.{to_network_by_test}
use Rattle.lfa_alt.proofs.offering.best_of.Goals as goal

pub loop-number-init : goal.loop-number-init
loop-number-init c = record {
  same = refl;
  one_each = c.requires.one_each;
  near = c.requires.near;
  best = rw c.in_ok-best.ensures (none_best c.args.searches.now c.args.source c.args.destinations.now c.args.paths.now);
}

pub offer_there-requires-clause-next : goal.offer_there-requires-clause-next
offer_there-requires-clause-next c =
    let at = slice_get_read c.args.paths.now (length c.args.paths.now) c.loop-number.number c.index-paths-number.result refl c.loop-number-test.true c.index-paths-number.is in
    omega (
      arith,
      paths_within c.args.searches.now c.requires.kept c.args.source c.args.paths.now c.requires.paths c.loop-number.number c.index-paths-number.result at,
      c.requires.destinations.one_each,
    )

pub loop-number-preserved-then-is_to_network : goal.loop-number-preserved-then-is_to_network
loop-number-preserved-then-is_to_network c =
    let area = c.args.searches.now in
    let path = c.index-paths-number.result in
    let at = slice_get_read c.args.paths.now (length c.args.paths.now) c.loop-number.number path refl c.loop-number-test.true c.index-paths-number.is in
    let over = c.requires.paths.only path (contains_at c.args.paths.now c.loop-number.number path at) in
    let to = to_network_by_test area c.args.source over.0 path over.1 (sym c.is_to_network.ensures ∙ c.if-is_to_network.true) in
    let same = c.loop-number.invariant.same in
    record {
      same = same;
      one_each = c.loop-number.invariant.one_each;
      near = c.loop-number.invariant.near;
      best = rw same (all_more area c.args.source c.loop-number.number c.args.destinations.now c.args.paths.now path c.loop-number.best.items c.offer_there.new.best.items at c.offer_there.ensures.one_each
          (rw same at c.loop-number.invariant.best) (c.offer_there.ensures.better area c.args.source c.requires.kept to c.requires.destinations));
    }

pub go_to-requires-clause-within : goal.go_to-requires-clause-within
go_to-requires-clause-within c =
    let at = slice_get_read c.args.paths.now (length c.args.paths.now) c.loop-number.number c.index-paths-number.result refl c.loop-number-test.true c.index-paths-number.is in
    omega (
      arith,
      paths_within c.args.searches.now c.requires.kept c.args.source c.args.paths.now c.requires.paths c.loop-number.number c.index-paths-number.result at,
      ap (λ (a : AreaParts). length a.ids) c.loop-number.invariant.same,
    )

pub offer-requires-clause-throughs : goal.offer-requires-clause-throughs
offer-requires-clause-throughs c = λ t destination at.
    omega (
      arith,
      throughs c.args.searches.now c.requires.kept c.args.source c.args.destinations.now c.requires.destinations t destination at,
      ap length c.deref.ensures.value,
      c.in_ok-go_to.ensures.one_each,
      ap (λ (a : AreaParts). length a.ids) c.loop-number.invariant.same,
    )

pub loop-number-preserved : goal.loop-number-preserved
loop-number-preserved c =
    let path = c.index-paths-number.result in
    let at = slice_get_read c.args.paths.now (length c.args.paths.now) c.loop-number.number path refl c.loop-number-test.true c.index-paths-number.is in
    let same = c.loop-number.invariant.same in
    record {
      same = c.in_ok-go_to.ensures.same ∙ same;
      one_each = c.in_ok-go_to.ensures.one_each ∙ ap (λ (a : AreaParts). length a.ids) (sym c.in_ok-go_to.ensures.same);
      near = rw (c.in_ok-go_to.ensures.same, c.in_ok-go_to.ensures.at) c.in_ok-go_to.ensures.near;
      best = rw (c.in_ok-go_to.ensures.same, same) (all_more c.args.searches.now c.args.source c.loop-number.number c.args.destinations.now c.args.paths.now path c.loop-number.best.items c.offer.new.best.items at
          c.offer.ensures.one_each (rw same at c.loop-number.invariant.best)
          (c.offer.ensures.better c.args.searches.now (rw (c.deref.ensures.value, ← same) c.in_ok-go_to.ensures.near) c.requires.destinations));
    }
