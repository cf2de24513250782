use Rattle.std.proofs.Common.{◌≡◌, ◌∙◌, [], length, refl, arith}
use Rattle.mrt_calls.proofs.Pairs.{all_taken, row_more, still_computed}
use Rattle.mrt_calls.proofs.proxy.fill.Goals as goal

pub loop-place-init : goal.loop-place-init
loop-place-init c = (refl, c.requires.made, refl, omega arith, ([], tt, (refl, λ fits. refl)))

pub row_of_pair-requires-clause-made : goal.row_of_pair-requires-clause-made
row_of_pair-requires-clause-made c = c.loop-place.invariant.1

pub row_of_pair-requires-clause-computed : goal.row_of_pair-requires-clause-computed
row_of_pair-requires-clause-computed c =
    still_computed c.args.at.now.graph.now c.args.at.now.root c.args.columns.now c.loop-place.columns c.loop-place.invariant.0 c.requires.computed

pub loop-place-preserved : goal.loop-place-preserved
loop-place-preserved c = (
  c.row_of_pair.ensures.still_root ∙ c.loop-place.invariant.0,
  c.row_of_pair.ensures.still_made,
  c.put_at.ensures.room ∙ c.loop-place.invariant.2,
  omega (arith, c.loop-place-test.true),
  row_more c.args.at.now.graph.now c.args.at.now.root c.args.at.now.source c.args.pairs.now c.loop-place.place _ _ c.pair_at-pair.result c.in_ok-row.row
      c.pair_at-pair.ensures c.put_at.ensures.room c.put_at.ensures.put c.loop-place.invariant.4 c.in_ok-row.ensures.row,
)

pub returns-clause-filled : goal.returns-clause-filled
returns-clause-filled c =
    let all : c.loop-place.place ≡ length c.args.pairs.now = omega (arith, c.loop-place-test.false, c.loop-place.invariant.3) in
    let rows = c.loop-place.invariant.4 in (
      rows.0,
      rw (all_taken c.args.pairs.now c.loop-place.place all) at rows.1,
      rw all at rows.2,
    )
