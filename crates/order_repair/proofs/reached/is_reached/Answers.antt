use Rattle.std.proofs.Common.{◌∙◌, sym}
use Rattle.order_repair.proofs.HopsTell.{hop_tells}
use Rattle.order_repair.proofs.reached.is_reached.Goals as goal

pub returns : goal.returns
returns c = λ w dir s reach.
    let tells = hop_tells c.args.g.now w dir s c.args.at c.hop.result (reach.each c.args.at c.hop.result c.hop.ensures) in
    (λ yes. tells.0 (sym c.is_some.ensures ∙ yes), λ it. c.is_some.ensures ∙ tells.1 it)
