use Rattle.std.proofs.Common.{refl}
use Rattle.mrt_graph.specs.declared.cert.Color.TheVariants.{Blue, Red}
use Rattle.mrt_report.proofs.ForLine.{row_there, row_touches}
use Rattle.mrt_report.proofs.destination_row.row_of.Goals as goal

pub row_for-row-requires : goal.row_for-row-requires
row_for-row-requires g c =
    let kept = c.requires.kept in
    row_there c.args.parts.now.island.now.links (g.R.RowsOf.rows c.args.parts.now.rows.now) Blue c.args.parts.now.source c.args.parts.now.to
    (kept.leads_on Blue c.args.parts.now.source kept.within kept.different)

pub link_hop-requires-clause-touches : goal.link_hop-requires-clause-touches
link_hop-requires-clause-touches g c =
    let kept = c.requires.kept in
    row_touches c.args.parts.now.island.now.links (g.R.RowsOf.rows c.args.parts.now.rows.now) Blue c.args.parts.now.source c.args.parts.now.to c.row_for-row.result
    c.row_for-row.ensures (kept.leads_on Blue c.args.parts.now.source kept.within kept.different)

pub link_hop-requires-2-clause-touches : goal.link_hop-requires-2-clause-touches
link_hop-requires-2-clause-touches g c =
    let kept = c.requires.kept in
    row_touches c.args.parts.now.island.now.links (g.R.RowsOf.rows c.args.parts.now.rows.now) Red c.args.parts.now.source c.args.parts.now.to c.row_for-row.result
    c.row_for-row.ensures (kept.leads_on Red c.args.parts.now.source kept.within kept.different)

pub returns : goal.returns
returns g c = record {
  id_is = c.id.ensures;
  links = c.row_for-row.result;
  links_are = c.row_for-row.ensures;
  tag_is = refl;
  blue_is = c.link_hop.ensures;
  red_is = c.link_hop-2.ensures;
  primary_is = c.arc_hop.ensures;
  first_is = c.repairs_of-repairs.ensures.first;
  second_is = c.repairs_of-repairs.ensures.second;
}
