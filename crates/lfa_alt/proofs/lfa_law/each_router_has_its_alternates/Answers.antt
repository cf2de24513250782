use Rattle.lfa_alt.proofs.LfasExist.{lfa_exists}
use Rattle.lfa_alt.proofs.lfa_law.each_router_has_its_alternates.Goals as goal

pub returns : goal.returns
returns c = lfa_exists
