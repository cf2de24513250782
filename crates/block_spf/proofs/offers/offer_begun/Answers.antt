use Rattle.std.proofs.Common.{◌≡◌, ◌+◌, ◌*◌, ◌∙◌, ℕ, length, inl, inr, refl, sym, ap, arith}
use Rattle.std.proofs.lemmas.Option.{slice_get_read}
use Rattle.block_spf.specs.steps.Known.{IsOne, known, known_at}
use Rattle.block_spf.specs.steps.Offers.{IsFirstOffer}
use Rattle.block_spf.proofs.EndRead.{end_is}
use Rattle.block_spf.proofs.EndsOffer.{first_back, first_is, first_not}
use Rattle.block_spf.proofs.InBlocks.{step_early}
use Rattle.block_spf.proofs.Marks.{IsMarkedEnd}
use Rattle.block_spf.proofs.Offering.{none_yet, offered_all, offered_more, offered_none}
use Rattle.block_spf.proofs.SideBySide.{row_within}
use Rattle.block_spf.proofs.offers.offer_begun.Goals as goal
use Rattle.block_spf.proofs.offers.offer_begun.Goals.{then-not-is_sole+then-leads_on, else-not-is_sole, else-not-is_sole-via-then-not-is_sole+else-leads_on, else-not-is_sole-via-else-not-is_sole}

pub mark-mark-requires : goal.mark-mark-requires
mark-mark-requires c =
    let is = end_is c.args.opening.now.graph.now c.args.source c.loop-place.place c.ends-end-items.result.now c.end-item.result c.ends-end-items.ensures.kept
    c.loop-place-test.true c.end-item.is in
    omega (arith, is.link, c.requires.opening.directed.are.says.one_mark_each)

pub overflow_mul-at : goal.overflow_mul-at
overflow_mul-at c =
    let g = c.args.opening.now.graph.now in
    let is = end_is g c.args.source c.loop-place.place c.ends-end-items.result.now c.end-item.result c.ends-end-items.ensures.kept c.loop-place-test.true c.end-item.is in
    let row = row_within c.end-item.result.to (length g.ids) c.args.width (length c.loop-place.costs) (c.loop-place.auto.costs ∙ c.requires.room) is.to in
    omega (arith, row, ap (λ (v : ℕ). v * c.args.width) c.get.ensures.value)

pub overflow_add-at : goal.overflow_add-at
overflow_add-at c =
    let g = c.args.opening.now.graph.now in
    let is = end_is g c.args.source c.loop-place.place c.ends-end-items.result.now c.end-item.result c.ends-end-items.ensures.kept c.loop-place-test.true c.end-item.is in
    let row = row_within c.end-item.result.to (length g.ids) c.args.width (length c.loop-place.costs) (c.loop-place.auto.costs ∙ c.requires.room) is.to in
    omega (arith, row, c.requires.place, ap (λ (v : ℕ). v * c.args.width) c.get.ensures.value)

pub offer_at-requires-clause-lanes : goal.offer_at-requires-clause-lanes
offer_at-requires-clause-lanes c = c.loop-place.invariant.lanes

pub loop-place-init : goal.loop-place-init
loop-place-init c = record {
  lanes = c.requires.lanes;
  offered = λ root w are.
      none_yet (IsFirstOffer c.args.opening.now w c.args.source c.args.width c.args.j)
      (known_at c.args.costs.now c.args.places.now);
}

pub offer_at-requires-clause-low : goal.offer_at-requires-clause-low
offer_at-requires-clause-low c = λ above.
    let is = end_is c.args.opening.now.graph.now c.args.source c.loop-place.place c.ends-end-items.result.now c.end-item.result c.ends-end-items.ensures.kept
    c.loop-place-test.true c.end-item.is in
    absurd (omega (arith, is.metric, above))

pub offer_at-requires-clause-at : goal.offer_at-requires-clause-at
offer_at-requires-clause-at c =
    let g = c.args.opening.now.graph.now in
    let is = end_is g c.args.source c.loop-place.place c.ends-end-items.result.now c.end-item.result c.ends-end-items.ensures.kept c.loop-place-test.true c.end-item.is in
    let row = row_within c.end-item.result.to (length g.ids) c.args.width (length c.loop-place.costs) (c.loop-place.auto.costs ∙ c.requires.room) is.to in
    omega (arith, row, c.requires.place, ap (λ (v : ℕ). v * c.args.width) c.get.ensures.value)

pub loop-place-preserved : goal.loop-place-preserved
loop-place-preserved c =
    let g = c.args.opening.now.graph.now in
    let d = c.args.opening.now.directed.now in
    let width = c.args.width in
    let j = c.args.j in
    let place = c.loop-place.place in
    let ends = c.ends-end-items.result.now in
    let end = c.end-item.result in
    let mark = c.mark-mark.result in
    let there = slice_get_read ends (length ends) place end refl c.loop-place-test.true c.end-item.is in
    let is : IsMarkedEnd g d c.args.source place ends end mark =
    record { list = c.ends-end-items.ensures.value; there = there; marked = c.mark-mark.ensures } in
    elim c.if-not-is_sole.branch [
      | then-not-is_sole+then-leads_on t ↦
          let at : ℕ = t.get.result * width + j in
          let at_is : at ≡ end.to * width + j = ap (λ (v : ℕ). v * width + j) t.get.ensures.value in
          rw (t.costs-is, t.places-is) (record {
            lanes = t.offer_at.ensures.lanes;
            offered = λ root w are.
                offered_more (IsFirstOffer c.args.opening.now w c.args.source width j) (IsOne at (known end.metric place)) place _ _ _
                (λ i offer. first_is c.args.opening.now w c.args.source place ends end mark c.requires.opening.kept are.says is width j at at_is c.requires.place i offer
                (λ sole. let yes = c.is_sole.ensures.1 sole in let no = t.if-not-is_sole.true in (cc)) (sym t.leads_on.ensures ∙ t.if-leads_on.true))
                (λ i offer. first_back c.args.opening.now w c.args.source place ends end mark c.requires.opening.kept are.says is width j at at_is c.requires.place i offer)
                (c.loop-place.invariant.offered root w are) t.offer_at.ensures.offered;
          })
      | else-not-is_sole t ↦ rw (t.costs-is, t.places-is) (record {
        lanes = c.loop-place.invariant.lanes;
        offered = λ root w are.
            offered_none (IsFirstOffer c.args.opening.now w c.args.source width j) place _ _
            (first_not c.args.opening.now w c.args.source place ends end mark c.requires.opening.kept are.says is
            (elim t.else-not-is_sole.branch [
              | else-not-is_sole-via-then-not-is_sole+else-leads_on t' ↦ inr (sym t'.leads_on.ensures ∙ t'.if-leads_on.false)
              | else-not-is_sole-via-else-not-is_sole t' ↦ inl (c.is_sole.ensures.0 t'.if-not-is_sole.false)
            ]) width j)
            (c.loop-place.invariant.offered root w are);
      })
    ]

pub returns-clause-offered : goal.returns-clause-offered
returns-clause-offered c = λ root w are.
    let g = c.args.opening.now.graph.now in
    offered_all (IsFirstOffer c.args.opening.now w c.args.source c.args.width c.args.j) _
    c.loop-place.place (known_at c.args.costs.now c.args.places.now) (known_at c.loop-place.costs c.loop-place.places)
    (λ i offer of. record { index = of.index; is = of.is })
    (λ i offer of. record {
      index = of.index;
      early = omega (
        arith,
        c.loop-place-test.false,
        step_early g w c.args.opening.now.dir (w.lies_in of.is.end.link) c.args.source of.index c.ends-end-items.result.now of.is.end c.ends-end-items.ensures.value of.is.step of.is.here,
      );
      is = of.is;
    })
    (c.loop-place.invariant.offered root w are)
