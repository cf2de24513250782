use Rattle.std.proofs.Common.{◌≡◌, ◌∙◌, ℕ, Some, length, slice_get, refl, sym, ap, subst, inl, inr, arith}
use Rattle.std.proofs.lemmas.Bool.{both_ways, cases_eq, eqb-false, eqb-true}
use Rattle.std.proofs.lemmas.Option.{same_Some, slice_get_read, slice_get_within}
use Rattle.mrt_graph.specs.declared.link.End.{End}
use Rattle.mrt_graph.proofs.EndsAt.{end_leads}
use Rattle.mrt_rows.specs.NearOf.{IsSoleOf}
use Rattle.mrt_rows.specs.steps.ListedDirections.{directions_by}
use Rattle.mrt_rows.proofs.OrderedGraphs.{within}
use Rattle.mrt_rows.proofs.Rooting.{og_of}
use Rattle.mrt_rows.proofs.SoleRows.{block_says, mark_says, none_is, sole_is}
use Rattle.mrt_rows.proofs.common.sole_of.Goals.{else-is_sole-via-then-is_sole+else-eq, else-is_sole-via-else-is_sole}
use Rattle.mrt_rows.proofs.common.sole_of.Goals as goal

pub returns-then-eq : goal.returns-then-eq
returns-then-eq c =
    let rooted = c.args.rooted.now in
    let g = rooted.graph.now in
    let d = rooted.directed.now in
    let w = directions_by rooted in
    let is = c.requires.rooted in
    let ends = c.ends-end-items.result.now in
    let end = c.end-item.result in
    let at = slice_get_read ends (length ends) c.loop-end.end-index end refl c.loop-end-test.true c.end-item.is in
    let inside = (within g end.link c.args.v end.to is.kept (end_leads g c.args.v c.loop-end.end-index ends end is.kept c.ends-end-items.ensures.value at)).link in
    let role = mark_says g d w end.link c.mark-mark.result is.says inside c.mark-mark.ensures in
    let block = block_says g d w end.link c.mark-mark.result is.says inside c.mark-mark.ensures in
    sole_is (og_of is) c.args.v c.requires.node end.link inside (sym role ∙ c.is_sole.ensures.0 c.if-is_sole.true)
    (sym block ∙ eqb-true c.mark-mark.result.block c.place-block.result.block (sym c.eq.ensures ∙ c.if-eq.true) ∙ c.place-block.ensures.block)

pub loop-end-preserved : goal.loop-end-preserved
loop-end-preserved c = λ j end below at sole in_block. elim (cases_eq j c.loop-end.end-index) [
  | inl same ↦
      let rooted = c.args.rooted.now in
      let g = rooted.graph.now in
      let d = rooted.directed.now in
      let w = directions_by rooted in
      let is = c.requires.rooted in
      let ends = c.ends-end-items.result.now in
      let item = c.end-item.result in
      let at_item = slice_get_read ends (length ends) c.loop-end.end-index item refl c.loop-end-test.true c.end-item.is in
      let inside = (within g item.link c.args.v item.to is.kept
      (end_leads g c.args.v c.loop-end.end-index ends item is.kept c.ends-end-items.ensures.value at_item)).link in
      let end_is : item ≡ end = same_Some item end (sym at_item ∙ subst (λ (i : ℕ). slice_get ends i ≡ Some end) same at) in
      elim c.else-is_sole.branch [
        | else-is_sole-via-then-is_sole+else-eq t ↦
            eqb-false c.mark-mark.result.block c.place-block.result.block (sym t.eq.ensures ∙ t.if-eq.false)
            (block_says g d w item.link c.mark-mark.result is.says inside c.mark-mark.ensures ∙ ap (λ (x : End). w.lies_in x.link) end_is ∙ in_block
            ∙ sym c.place-block.ensures.block)
        | else-is_sole-via-else-is_sole t ↦
            both_ways _ t.if-is_sole.false (c.is_sole.ensures.1
            (mark_says g d w item.link c.mark-mark.result is.says inside c.mark-mark.ensures ∙ ap (λ (x : End). w.role x.link) end_is ∙ sole))
      ]
  | inr other ↦ c.loop-end.invariant j end (omega (arith, below, other)) at sole in_block
]

pub returns : goal.returns
returns c =
    let rooted = c.args.rooted.now in
    let ends = c.ends-end-items.result.now in
    subst (λ (link : ℕ). IsSoleOf rooted.graph.now (directions_by rooted) c.args.v link) (sym c.new.ensures)
    (none_is (og_of c.requires.rooted) c.args.v c.requires.node ends c.ends-end-items.ensures.value
    (λ j end at. c.loop-end.invariant j end (omega (arith, slice_get_within ends j end at, c.loop-end-test.false)) at))
