use Rattle.std.proofs.Common.{◌≡◌, ◌*◌, ◌∙◌, ℕ, length, inl, inr, refl, sym, ap, arith}
use Rattle.std.proofs.lemmas.Bool.{eqb-false, eqb-true}
use Rattle.std.proofs.lemmas.Option.{slice_get_read}
use Rattle.block_spf.specs.steps.Known.{IsOver, known_at}
use Rattle.block_spf.specs.steps.Offers.{IsFurtherOffer}
use Rattle.block_spf.proofs.EndRead.{end_is}
use Rattle.block_spf.proofs.EndsOffer.{further_back, further_is, further_not}
use Rattle.link_direction.proofs.TwoNodes.{place_says}
use Rattle.block_spf.proofs.InBlocks.{step_early}
use Rattle.block_spf.proofs.Marks.{IsMarkedEnd}
use Rattle.block_spf.proofs.Offering.{none_yet, offered_all, offered_more, offered_none}
use Rattle.block_spf.proofs.SideBySide.{row_within}
use Rattle.block_spf.proofs.offers.offer_on.Goals as goal
use Rattle.block_spf.proofs.offers.offer_on.Goals.{then-eq+then-leads_on, else-eq, else-eq-via-then-eq+else-leads_on, else-eq-via-else-eq}

pub mark-mark-requires : goal.mark-mark-requires
mark-mark-requires c =
    let is = end_is c.args.opening.now.graph.now c.args.x c.loop-end.end-index c.ends-end-items.result.now c.end-item.result c.ends-end-items.ensures.kept c.loop-end-test.true c.end-item.is in
    omega (arith, is.link, c.requires.opening.directed.are.says.one_mark_each)

pub overflow_mul-at : goal.overflow_mul-at
overflow_mul-at c =
    let g = c.args.opening.now.graph.now in
    let is = end_is g c.args.x c.loop-end.end-index c.ends-end-items.result.now c.end-item.result c.ends-end-items.ensures.kept c.loop-end-test.true c.end-item.is in
    let row = row_within c.get.result (length g.ids) (length c.args.from_costs.now) (length c.loop-end.costs) (c.loop-end.auto.costs ∙ c.requires.room)
    (omega (arith, is.to, c.get.ensures.value)) in
    omega (arith, row)

pub offer_over-requires-clause-room : goal.offer_over-requires-clause-room
offer_over-requires-clause-room c =
    let g = c.args.opening.now.graph.now in
    let is = end_is g c.args.x c.loop-end.end-index c.ends-end-items.result.now c.end-item.result c.ends-end-items.ensures.kept c.loop-end-test.true c.end-item.is in
    row_within c.get.result (length g.ids) (length c.args.from_costs.now) (length c.loop-end.costs) (c.loop-end.auto.costs ∙ c.requires.room)
    (omega (arith, is.to, c.get.ensures.value))

pub offer_over-requires-clause-lanes : goal.offer_over-requires-clause-lanes
offer_over-requires-clause-lanes c = c.loop-end.invariant.lanes

pub offer_over-requires-clause-from : goal.offer_over-requires-clause-from
offer_over-requires-clause-from c = c.requires.from

pub offer_over-requires-clause-low : goal.offer_over-requires-clause-low
offer_over-requires-clause-low c = c.requires.low

pub loop-end-init : goal.loop-end-init
loop-end-init c = record {
  lanes = c.requires.lanes;
  offered = λ root w are.
      none_yet (IsFurtherOffer c.args.opening.now w c.args.x c.args.from_costs.now c.args.from_places.now)
      (known_at c.args.costs.now c.args.places.now);
}

pub loop-end-preserved : goal.loop-end-preserved
loop-end-preserved c =
    let g = c.args.opening.now.graph.now in
    let d = c.args.opening.now.directed.now in
    let from_costs = c.args.from_costs.now in
    let from_places = c.args.from_places.now in
    let place = c.loop-end.end-index in
    let ends = c.ends-end-items.result.now in
    let end = c.end-item.result in
    let mark = c.mark-mark.result in
    let there = slice_get_read ends (length ends) place end refl c.loop-end-test.true c.end-item.is in
    let is : IsMarkedEnd g d c.args.x place ends end mark =
    record { list = c.ends-end-items.ensures.value; there = there; marked = c.mark-mark.ensures } in
    elim c.if-eq.branch [
      | then-eq+then-leads_on t ↦
          let at = t.get.result * length from_costs in
          let at_is : at ≡ end.to * length from_costs = ap (λ (v : ℕ). v * length from_costs) t.get.ensures.value in
          rw (t.costs-is, t.places-is) (record {
            lanes = t.offer_over.ensures.lanes;
            offered = λ root w are.
                let own = eqb-true mark.block c.place-block.result.block (sym c.eq.ensures ∙ t.if-eq.true)
                ∙ (place_says g d w c.args.x c.place-block.result are.says c.requires.node c.place-block.ensures).1 in
                offered_more (IsFurtherOffer c.args.opening.now w c.args.x from_costs from_places) (IsOver from_costs from_places end.metric at) place _ _ _
                (λ i offer. further_is c.args.opening.now w c.args.x place ends end mark c.requires.opening.kept are.says is from_costs from_places at at_is i offer own
                (sym t.leads_on.ensures ∙ t.if-leads_on.true))
                (λ i offer. further_back c.args.opening.now w c.args.x place ends end mark c.requires.opening.kept are.says is from_costs from_places at at_is i offer)
                (c.loop-end.invariant.offered root w are) t.offer_over.ensures.offered;
          })
      | else-eq t ↦ rw (t.costs-is, t.places-is) (record {
        lanes = c.loop-end.invariant.lanes;
        offered = λ root w are.
            let block = (place_says g d w c.args.x c.place-block.result are.says c.requires.node c.place-block.ensures).1 in
            offered_none (IsFurtherOffer c.args.opening.now w c.args.x from_costs from_places) place _ _
            (further_not c.args.opening.now w c.args.x place ends end mark c.requires.opening.kept are.says is
            (elim t.else-eq.branch [
              | else-eq-via-then-eq+else-leads_on t' ↦ inr (sym t'.leads_on.ensures ∙ t'.if-leads_on.false)
              | else-eq-via-else-eq t' ↦
                  inl (λ same. eqb-false mark.block c.place-block.result.block (sym c.eq.ensures ∙ t'.if-eq.false) (same ∙ sym block))
            ]) from_costs from_places)
            (c.loop-end.invariant.offered root w are);
      })
    ]

pub returns-clause-offered : goal.returns-clause-offered
returns-clause-offered c = λ root w are.
    let g = c.args.opening.now.graph.now in
    offered_all (IsFurtherOffer c.args.opening.now w c.args.x c.args.from_costs.now c.args.from_places.now) _
    c.loop-end.end-index (known_at c.args.costs.now c.args.places.now) (known_at c.loop-end.costs c.loop-end.places)
    (λ i offer of. record { index = of.index; is = of.is })
    (λ i offer of. record {
      index = of.index;
      early = omega (
        arith,
        c.loop-end-test.false,
        step_early g w c.args.opening.now.dir (w.block c.args.x) c.args.x of.index c.ends-end-items.result.now of.is.end c.ends-end-items.ensures.value of.is.step of.is.here,
      );
      is = of.is;
    })
    (c.loop-end.invariant.offered root w are)
