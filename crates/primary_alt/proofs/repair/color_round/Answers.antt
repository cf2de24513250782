use Rattle.std.proofs.Common.{◌∙◌, sym, true≢false}
use Rattle.mrt_graph.specs.Alternate.{AtEnd, ByBlue, ByRed, OnBoth}
use Rattle.primary_alt.proofs.repair.color_round.Goals as goal

pub returns-then-not-is_between : goal.returns-then-not-is_between
returns-then-not-is_between g c = AtEnd c.args.x.now (λ between. true≢false (sym (c.is_between.ensures.1 between) ∙ c.if-not-is_between.true))

pub returns-then-not-uses : goal.returns-then-not-uses
returns-then-not-uses g c =
    ByBlue c.args.x.now (c.is_between.ensures.0 c.if-not-is_between.false)
    (λ uses. true≢false (sym (c.uses.ensures.1 uses) ∙ c.if-not-uses.true))

pub returns-then-not-uses-2 : goal.returns-then-not-uses-2
returns-then-not-uses-2 g c =
    ByRed c.args.x.now (c.is_between.ensures.0 c.if-not-is_between.false) (c.uses.ensures.0 c.if-not-uses.false)
    (λ uses. true≢false (sym (c.uses-2.ensures.1 uses) ∙ c.if-not-uses-2.true))

pub returns : goal.returns
returns g c =
    OnBoth c.args.x.now (c.is_between.ensures.0 c.if-not-is_between.false) (c.uses.ensures.0 c.if-not-uses.false)
    (c.uses-2.ensures.0 c.if-not-uses-2.false)
