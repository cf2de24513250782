use Rattle.std.proofs.Common.{refl}
use Rattle.mrt_report.specs.Repairs.{Inside, Outside}
use Rattle.mrt_report.proofs.elements.element_of_node.Goals as goal

pub returns-in-Some : goal.returns-in-Some
returns-in-Some c = Inside c.in-Some.node c.in-Some.ensures.found

pub returns-in-None : goal.returns-in-None
returns-in-None c = Outside (c.in-None.ensures.none.0 refl)
