use Rattle.std.proofs.Common.{◌++◌, ◌∙◌, ℕ, List, ap, sym, subst}
use Rattle.mrt_report.specs.LineParts.{line_parts}
use Rattle.mrt_report.specs.Lines.{IsLine}
use Rattle.mrt_report.proofs.table.table_line.Goals as goal

pub push_table_line-requires : goal.push_table_line-requires
push_table_line-requires g c = record {
  fits = c.requires.fits;
  sound = c.requires.sound;
  source = c.requires.source;
  router = c.requires.router;
  target = c.requires.target;
  different = c.requires.different;
  primary = c.requires.primary;
}

pub returns : goal.returns
returns g c =
    let line = c.in_ok-push_table_line.ensures.added in
    subst
    (λ (text : List ℕ).
    IsLine (line_parts c.args.area.now c.args.island.now c.args.link_of.now (g.R.RowsOf.rows c.args.rows.now) c.args.source) c.args.to c.args.prim text)
    (sym (line.added ∙ ap (λ (xs : List ℕ). xs ++ line.part) c.in_ok-text.ensures.items)) line.is
