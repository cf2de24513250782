use Rattle.primary_alt.proofs.PrimariesExist.{primaries_exist}
use Rattle.primary_alt.proofs.primary_law.each_router_has_its_primaries.Goals as goal

pub returns : goal.returns
returns c = primaries_exist
