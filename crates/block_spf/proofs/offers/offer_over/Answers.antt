use Rattle.std.proofs.Common.{◌+◌, get_or, inl, inr, ap, arith}
use Rattle.std.proofs.lemmas.Bool.{cases_lt}
use Rattle.block_spf.specs.steps.Known.{IsOne, Known, known, known_at}
use Rattle.block_spf.specs.Rest.{far}
use Rattle.block_spf.proofs.Offering.{LaneOffer, none_yet, offered_all, offered_more}
use Rattle.block_spf.proofs.offers.offer_over.Goals as goal

pub loop-j-init : goal.loop-j-init
loop-j-init c = record {
  lanes = c.requires.lanes;
  offered = none_yet (LaneOffer c.args.from_costs.now c.args.from_places.now c.args.metric c.args.at) (known_at c.args.costs.now c.args.places.now);
}

pub offer_at-requires-clause-low : goal.offer_at-requires-clause-low
offer_at-requires-clause-low c = λ above. elim (cases_lt (get_or c.args.from_costs.now c.loop-j.j 0) far) [
  | inl less ↦ absurd (omega (arith, c.requires.low c.loop-j.j less, above, c.ranges.metric.fits))
  | inr all ↦ let none = ap (λ (o : Known). o.place) (c.requires.from.none c.loop-j.j all) in omega (arith, none)
]

pub loop-j-preserved : goal.loop-j-preserved
loop-j-preserved c =
    let j = c.loop-j.j in
    let offer = known (get_or c.args.from_costs.now j 0 + c.args.metric) (get_or c.args.from_places.now j 0) in
    record {
      lanes = c.offer_at.ensures.lanes;
      offered =
          offered_more (LaneOffer c.args.from_costs.now c.args.from_places.now c.args.metric c.args.at) (IsOne (c.args.at + j) offer) j _ _ _
          (λ i one is. is) (λ i one is. is) c.loop-j.invariant.offered c.offer_at.ensures.offered;
    }

pub returns-clause-offered : goal.returns-clause-offered
returns-clause-offered c =
    offered_all (LaneOffer c.args.from_costs.now c.args.from_places.now c.args.metric c.args.at) _ c.loop-j.j _ _
    (λ i one of. record { lane = of.index; below = omega (arith, of.early, c.loop-j.auto.j-end); one = of.is })
    (λ i one over. record { index = over.lane; early = omega (arith, over.below, c.loop-j-test.false); is = over.one }) c.loop-j.invariant.offered
