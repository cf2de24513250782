use Rattle.std.proofs.Common.{◌<◌, ◌≤◌, subst, arith, ℕ}
use Rattle.area_graph.proofs.Slices.{at_most_all, climbs, none_further, one_further}
use Rattle.area_graph.proofs.starts.first_from.Goals as goal

pub loop-at-preserved : goal.loop-at-preserved
loop-at-preserved c =
    let low = subst (λ (n : ℕ). n < c.args.s) c.get.ensures.value c.if-get-s.true in
    let more = one_further c.args.s c.args.arcs.now c.loop-at.at c.index-arcs-at.result (climbs c.args.arcs.now c.requires.ascend) c.loop-at-test.true low in
    omega (arith, more)

pub returns-else-get-s : goal.returns-else-get-s
returns-else-get-s c =
    let high = subst (λ (n : ℕ). c.args.s ≤ n) c.get.ensures.value c.if-get-s.false in
    let most = none_further c.args.s c.args.arcs.now c.loop-at.at c.index-arcs-at.result (climbs c.args.arcs.now c.requires.ascend) c.loop-at-test.true high in
    omega (arith, most, c.loop-at.invariant)

pub returns-after-loop-at : goal.returns-after-loop-at
returns-after-loop-at c = omega (arith, c.loop-at.invariant, c.loop-at-test.false, at_most_all c.args.s c.args.arcs.now)
