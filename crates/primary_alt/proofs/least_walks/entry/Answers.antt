use Rattle.std.proofs.Common.{◌∙◌, None, Some, sym, arith}
use Rattle.primary_alt.specs.Primaries.{Itself, NoWalk}
use Rattle.primary_alt.proofs.Beginning.{apart_by, equal_by, standing}
use Rattle.primary_alt.proofs.least_walks.entry.Goals as goal

pub returns-then-eq : goal.returns-then-eq
returns-then-eq c = Itself (equal_by c.args.t c.args.source (sym c.eq.ensures ∙ c.if-eq.true))

pub primary_over-requires-clause-begin : goal.primary_over-requires-clause-begin
primary_over-requires-clause-begin c =
    let at = standing c.args.begins.now c.get.result c.args.t (Some c.in-Some.begin) _ c.get.ensures.value (omega (arith, c.requires.to, c.requires.begins)) (sym c.in-Some.is) in
    c.requires.are.some c.args.t c.in-Some.begin (apart_by c.args.t c.args.source (sym c.eq.ensures ∙ c.if-eq.false)) at

pub returns-in-None : goal.returns-in-None
returns-in-None c =
    let at = standing c.args.begins.now c.get.result c.args.t None _ c.get.ensures.value (omega (arith, c.requires.to, c.requires.begins)) (sym c.in-None.is) in
    NoWalk (c.requires.are.none c.args.t (apart_by c.args.t c.args.source (sym c.eq.ensures ∙ c.if-eq.false)) at)
