use Rattle.std.proofs.Common.{◌≡◌, ◌≢◌, ℕ, length, below_more, arith}
use Rattle.cert_checker.specs.steps.Standing.{NodeFits}
use Rattle.cert_checker.proofs.ByStanding.{blocks}
use Rattle.cert_checker.proofs.standing.blocks_hold.Goals as goal

pub loop-a-preserved : goal.loop-a-preserved
loop-a-preserved c =
    below_more (λ (x : ℕ). x ≢ c.args.root → NodeFits c.args.c.now c.loop-m.table x) _ c.loop-a.invariant
    (rw (c.known_node.ensures.number, c.new-in-loop-a.ensures) at c.node_fits.ensures c.if-not-node_fits.false)

pub returns : goal.returns
returns c = λ _.
    let links : c.loop-e.e ≡ length c.args.c.now.links = omega arith in
    let nodes : c.loop-a.a ≡ length c.args.c.now.nodes = omega arith in
    blocks c.args.c.now c.args.root c.loop-m.table c.requires.root c.requires.heads (rw links at c.loop-e.invariant) (rw nodes at c.loop-a.invariant)
