use Rattle.std.proofs.Common.{refl}
use Rattle.primary_alt.proofs.ArcsOffered.{far_within}
use Rattle.mrt_report.proofs.destination_row.arc_hop.Goals as goal

pub id-requires : goal.id-requires
id-requires c = far_within c.args.area.now c.arc-arc.result c.requires.kept c.arc-arc.ensures.kept

pub returns : goal.returns
returns c = record { arc = c.arc-arc.result; arc_is = c.arc-arc.ensures.value; far_is = c.id.ensures; data_is = refl }
