use Rattle.std.proofs.Common.{arith}
use Rattle.mrt_plain.specs.steps.Without.{onward_without}
use Rattle.mrt_plain.proofs.Avoiding.{onward_within}
use Rattle.mrt_plain.proofs.Stepping.{all_ways, first_way, next_way}
use Rattle.mrt_plain.proofs.settling.visit.Goals as goal

pub loop-e-init : goal.loop-e-init
loop-e-init c = first_way (onward_without c.args.links.now c.args.x.now c.args.at) _

pub loop-e-preserved : goal.loop-e-preserved
loop-e-preserved c = next_way (onward_without c.args.links.now c.args.x.now c.args.at) c.loop-e.e _ _ _ c.loop-e.invariant c.pass.ensures

pub returns : goal.returns
returns c =
    all_ways (onward_without c.args.links.now c.args.x.now c.args.at) c.loop-e.e _ _
    (λ k v onward. omega (arith, onward_within c.args.links.now c.args.x.now c.args.at k v onward))
    c.loop-e.invariant
