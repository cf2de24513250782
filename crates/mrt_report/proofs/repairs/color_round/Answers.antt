use Rattle.std.proofs.Common.{◌∙◌, sym, true≢false}
use Rattle.mrt_graph.specs.Alternate.{AtEnd, ByBlue, ByRed, OnBoth}
use Rattle.mrt_report.proofs.repairs.color_round.Goals as goal

pub returns-then-not-is_between : goal.returns-then-not-is_between
returns-then-not-is_between g c = AtEnd c.args.x.now (λ between. true≢false (sym (c.is_between.ensures.1 between) ∙ c.if-not-is_between.true))

pub returns-then-not-blue : goal.returns-then-not-blue
returns-then-not-blue g c =
    let between = c.is_between.ensures.0 c.if-not-is_between.false in
    ByBlue c.args.x.now between (λ uses. true≢false (sym ((c.requires.blue between).1 uses) ∙ c.if-not-blue.true))

pub returns-then-not-red : goal.returns-then-not-red
returns-then-not-red g c =
    let between = c.is_between.ensures.0 c.if-not-is_between.false in
    ByRed c.args.x.now between ((c.requires.blue between).0 c.if-not-blue.false)
    (λ uses. true≢false (sym ((c.requires.red c.if-not-blue.false between).1 uses) ∙ c.if-not-red.true))

pub returns : goal.returns
returns g c =
    let between = c.is_between.ensures.0 c.if-not-is_between.false in
    OnBoth c.args.x.now between ((c.requires.blue between).0 c.if-not-blue.false) ((c.requires.red c.if-not-blue.false between).0 c.if-not-red.false)
