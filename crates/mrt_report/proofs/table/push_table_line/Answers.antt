use Rattle.std.proofs.Common.{◌≡◌, ◌++◌, refl}
use Rattle.std.proofs.lemmas.Result.{IfOk-weaker}
use Rattle.text_parts.specs.steps.Adds.{Adds}
use Rattle.mrt_report.specs.LineParts.{line_parts}
use Rattle.mrt_report.specs.Lines.{IsLine, row_text}
use Rattle.mrt_report.proofs.table.push_table_line.Goals as goal

pub table_row-row-requires : goal.table_row-row-requires
table_row-row-requires g c = record {
  fits = c.requires.fits;
  sound = c.requires.sound;
  source = c.requires.source;
  router = c.requires.router;
  target = c.requires.target;
  different = c.requires.different;
  primary = c.requires.primary;
}

pub returns-clause-added : goal.returns-clause-added
returns-clause-added g c =
    IfOk-weaker c.push_row.result
    (λ _. c.push_row.new.text.items ≡ c.args.text.now.items ++ row_text c.table_row-row.result)
    (λ _. Adds (IsLine (line_parts c.args.area.now c.args.island.now c.args.link_of.now (g.R.RowsOf.rows c.args.rows.now) c.args.source) c.args.to c.args.prim)
    c.args.text.now.items c.push_row.new.text.items)
    (λ _ added. record {
      part = row_text c.table_row-row.result;
      is = record { row = c.table_row-row.result; row_is = c.table_row-row.ensures; spelled = refl };
      added = added;
    })
    c.push_row.ensures.added
