use Rattle.mrt_report.proofs.ByColumn.{parts_by_sound}
use Rattle.mrt_report.proofs.ForLine.{its_first_within, its_second_within}
use Rattle.mrt_report.proofs.table.table_row.Goals as goal

pub row_of-requires : goal.row_of-requires
row_of-requires g c = record {
  kept =
      parts_by_sound c.args.area.now c.args.island.now c.args.link_of.now (g.R.RowsOf.rows c.args.rows.now) c.args.source c.args.to
      c.count-nodes.ensures.kept c.node_count-count.ensures.kept c.requires.fits c.requires.source c.requires.target c.requires.different c.requires.sound;
  first = its_first_within c.args.area.now c.args.island.now c.args.source c.args.to c.args.prim c.requires.primary;
  second = its_second_within c.args.area.now c.args.island.now c.args.source c.args.to c.args.prim c.requires.primary;
}
