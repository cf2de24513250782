use Rattle.std.proofs.Common.{◌≡◌, ℕ, get_or, subst, arith}
use Rattle.mrt_plain.proofs.Avoiding.{told_by_mark}
use Rattle.mrt_plain.proofs.parting.separates.Goals as goal

pub returns : goal.returns
returns c =
    told_by_mark c.args.links.now c.args.x c.args.s c.args.t c.in_ok-reached.reached.items c.index.result.now
    (omega (arith, c.in_ok-reached.ensures.count))
    (subst (λ (at : ℕ). c.index.result.now ≡ get_or c.in_ok-reached.reached.items at c.index.result.now) c.get.ensures.value c.index.ensures)
    (c.is_between.ensures.0 c.if-not-is_between.false)
    (c.in_ok-reached.ensures.reached c.args.t)
