use Rattle.std.proofs.Common.{◌∙◌, refl}
use Rattle.fabric.proofs.Placed.{missing, placed}
use Rattle.fabric.proofs.of_area.spot_of.Goals as goal

pub returns-in-Some : goal.returns-in-Some
returns-in-Some c = placed c.args.area.now c.in-Some.spot c.args.id c.count.ensures.kept c.in-Some.ensures.found

pub returns-in-None : goal.returns-in-None
returns-in-None c = c.new-none.ensures ∙ c.count.ensures.count ∙ missing c.args.area.now c.args.id (c.in-None.ensures.none.0 refl)
