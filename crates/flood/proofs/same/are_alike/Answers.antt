use Rattle.std.proofs.Common.{◌∙◌, refl, sym}
use Rattle.flood.proofs.SameLsas.{placeless_same, same_change}
use Rattle.flood.proofs.same.are_alike.Goals as goal

pub returns-in-Same : goal.returns-in-Same
returns-in-Same c = (
  λ _. placeless_same c.args.one.now c.args.other.now c.if-one-other.true
      (sym c.change_of-change.ensures ∙ c.in-Same.is),
  λ _. refl,
)

pub returns-in_default : goal.returns-in_default
returns-in_default c = (
  λ is. absurd cc,
  λ same. absurd (c.in_default.not-Same (c.change_of-change.ensures ∙ same_change c.args.one.now c.args.other.now same)),
)
