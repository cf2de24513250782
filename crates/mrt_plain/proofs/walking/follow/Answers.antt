use Rattle.mrt_plain.proofs.Following.{following_onward}
use Rattle.mrt_plain.proofs.walking.follow.Goals as goal

pub loop-hop-preserved : goal.loop-hop-preserved
loop-hop-preserved c =
    rw (c.in_ok-push.ensures.items, c.in_ok-push-2.ensures.items)
    (following_onward c.args.links.now _ _ c.args.t c.args.s _ _ _ _ _ _ c.loop-hop.invariant c.in-Some.ensures.some)
