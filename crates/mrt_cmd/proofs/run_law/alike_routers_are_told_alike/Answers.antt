use Rattle.mrt_cmd.proofs.ToldAlike.{told_alike}
use Rattle.mrt_cmd.proofs.run_law.alike_routers_are_told_alike.Goals as goal

pub returns : goal.returns
returns c = told_alike c.alike_deliveries_are_told_alike.ensures
