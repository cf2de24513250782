use Rattle.std.proofs.Common.{◌∙◌, sym}
use Rattle.std.proofs.lemmas.Bool.Decides.{Decides-eqb}
use Rattle.gadag_ears.proofs.growing.begins_block.Goals as goal

pub returns-in-Child : goal.returns-in-Child
returns-in-Child c =
    let is = Decides-eqb c.args.stop c.args.x in
    (λ yes. (c.in-Child.is, is.0 (sym c.eq.ensures ∙ yes)), λ both. c.eq.ensures ∙ is.1 both.1)
