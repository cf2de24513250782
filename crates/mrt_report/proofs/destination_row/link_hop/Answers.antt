use Rattle.std.proofs.Common.{refl}
use Rattle.mrt_report.proofs.destination_row.link_hop.Goals as goal

pub returns : goal.returns
returns c = record { end = c.end_on-end.result; end_is = c.end_on-end.ensures.is; far_is = c.id.ensures; data_is = refl }
